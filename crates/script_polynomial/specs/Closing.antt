-- Where a parenthesis may close, or a space be followed by more: the byte there decides.
use Rattle.std.specs.Prelude.{Bool, true, List, [], ◌∷◌, ◌≡◌, refl, ℕ, ◌+◌, ◌<◌, drop, get_or}
use Rattle.std.proofs.Math.Bool.{false}
use Rattle.std.proofs.Common.{sym, ◌∙◌, arith}
use Rattle.std.proofs.Math.Dec.{eqb}
use Rattle.std.proofs.Math.ListN.{length}
use borrow.Author.Tests.{eq-eqb, ne_eqb}
use Rattle.sign_laws.specs.Booleans.{never_both}
use Rattle.rules.specs.Reader.{Reader, give}
use Rattle.rules.specs.Combine.{given, say, ◌union◌, one_of}
use Rattle.rules.specs.Text.{bytes}
use Rattle.rules.specs.Reading.{choice}
use Rattle.script_laws.specs.Steps.{got, stop, read_part}
use Rattle.script_polynomial.specs.At.{read_at, byte_inside, byte-on, byte-stops}

-- The end with what it gives; more behind a space, where that is allowed.
abbrev pub end_or_more : {A : Type 0} → A → Bool → Reader A → Reader A
end_or_more a allowed more = one_of (choice true (bytes ")") (give a) ∷ choice allowed (bytes " ") more ∷ [])

module _ {A : Type 0} (text : List ℕ) (at : ℕ) {b : ℕ} (b-is : b ≡ get_or text at 0) where
  -- A single byte that must stand there.
  pub byte-said : (c : ℕ) (r : Reader A) → 0 < c → b ≡ c → read_at text at (say (c ∷ []) r) ≡ read_at text (at + 1) r
  unfolding say given
  byte-said c r some e =
      byte-on text at (λ x. given (eqb x c) r) (byte_inside text at (omega (arith, b-is, e, some))) ∙ rw (eq-eqb (get_or text at 0) c (sym b-is ∙ e))

  pub byte-unsaid : (c : ℕ) (r : Reader A) → (b ≡ c → ⊥) → read_at text at (say (c ∷ []) r) ≡ stop at
  unfolding say given
  byte-unsaid c r other = byte-stops text at (λ x. given (eqb x c) r) (rw (ne_eqb (get_or text at 0) c (λ e. other (b-is ∙ e))))

module _ {A : Type 0} (text : List ℕ) (at : ℕ) {b : ℕ} (b-is : b ≡ get_or text at 0) (a : A) where
  pub ends : (allowed : Bool) (more : Reader A) → b ≡ 41 → read_at text at (end_or_more a allowed more) ≡ got a (at + 1) (drop (at + 1) text)
  unfolding one_of given say ◌union◌ read_part
  ends allowed more e = by allowed
    where
      here : at < length text
      here = byte_inside text at (omega (arith, b-is, e))

      by : (x : Bool) → read_at text at (end_or_more a x more) ≡ got a (at + 1) (drop (at + 1) text)
      by true = byte-on text at (λ x. given (eqb x 41) (give a) union given (eqb x 32) more) here ∙ rw (← b-is, e)
      by false = byte-on text at (λ x. given (eqb x 41) (give a)) here ∙ rw (← b-is, e)

  pub ends-not : (allowed : Bool) (more : Reader A) → (b ≡ 41 → ⊥) → (b ≡ 32 → allowed ≡ false) → read_at text at (end_or_more a allowed more) ≡ stop at
  unfolding one_of given say ◌union◌
  ends-not allowed more other none = by allowed none
    where
      no_end : eqb (get_or text at 0) 41 ≡ false
      no_end = ne_eqb (get_or text at 0) 41 (λ e. other (b-is ∙ e))

      by : (x : Bool) → (b ≡ 32 → x ≡ false) → read_at text at (end_or_more a x more) ≡ stop at
      by true h =
          let no-space : eqb (get_or text at 0) 32 ≡ false = ne_eqb (get_or text at 0) 32 (λ e. never_both refl (h (b-is ∙ e))) in
          byte-stops text at (λ x. given (eqb x 41) (give a) union given (eqb x 32) more) (rw (no_end, no-space))
      by false h = byte-stops text at (λ x. given (eqb x 41) (give a)) (rw no_end)

  pub goes_on : (allowed : Bool) (more : Reader A) → b ≡ 32 → allowed ≡ true → read_at text at (end_or_more a allowed more) ≡ read_at text (at + 1) more
  unfolding one_of given say ◌union◌
  goes_on allowed more e may =
      rw may (byte-on text at (λ x. given (eqb x 41) (give a) union given (eqb x 32) more) (byte_inside text at (omega (arith, b-is, e)))
      ∙ rw (← b-is, e))
