-- How far a text agrees with a run of bytes, and what `say` of these bytes reads then.
use Rattle.std.specs.Prelude.{Bool, ◌≡◌, eqb, drop}
use Rattle.std.proofs.Math.Bool.{true, false}
use mathlib.Core.List.{List, [], ◌∷◌}
use Rattle.std.proofs.Math.Path.{ap}
use Rattle.std.proofs.Common.{◌∙◌, add-zero, add-suc, length-drop, drop-drop}
use Prim.Native.Nat.{ℕ, suc, ◌+◌, ◌-◌, ◌≤◌, ◌<◌}
use Rattle.std.proofs.Math.Nat.{suc-add}
use native.Mathlib.Omega.{arith}
use Rattle.std.proofs.Math.ListN.{length}
use Rattle.rules.specs.Reader.{Reader}
use Rattle.rules.specs.Combine.{given, say}
use Rattle.script_laws.specs.Steps.{stop, read_part}
use Rattle.script_polynomial.specs.At.{read_at, Stops}

unfoldable pub one_more : Bool → ℕ → ℕ
one_more true k = suc k
one_more false k = 0

-- The length of the common beginning of these bytes and a text.
unfoldable pub common : List ℕ → List ℕ → ℕ
common [] t = 0
common (c ∷ s) [] = 0
common (c ∷ s) (b ∷ t) = let k = common s t in one_more (eqb b c) k

pub common-short : (s t : List ℕ) → common s t ≤ length s
unfolding common one_more
common-short [] t = omega arith
common-short (c ∷ s) [] = omega arith
common-short (c ∷ s) (b ∷ t) = by (eqb b c) (common-short s t)
  where
    by : (x : Bool) → common s t ≤ length s → one_more x (common s t) ≤ suc (length s)
    by true h = omega arith
    by false h = omega arith

pub common-inside : (s t : List ℕ) → common s t ≤ length t
unfolding common one_more
common-inside [] t = omega arith
common-inside (c ∷ s) [] = omega arith
common-inside (c ∷ s) (b ∷ t) = by (eqb b c) (common-inside s t)
  where
    by : (x : Bool) → common s t ≤ length t → one_more x (common s t) ≤ suc (length t)
    by true h = omega arith
    by false h = omega arith

module _ {A : Type 0} (r : Reader A) where
  said_all : (p : ℕ) (s t : List ℕ) → common s t ≡ length s → read_part p (say s r) t ≡ read_part (p + length s) r (drop (length s) t)
  unfolding common one_more read_part say given
  said_all p [] t e = rw (add-zero p)
  said_all p (c ∷ s) [] e = absurd (omega (arith, e))
  said_all p (c ∷ s) (b ∷ t) e = by (eqb b c) e (said_all (suc p) s t)
    where
      by : (x : Bool) → one_more x (common s t) ≡ suc (length s)
          → (common s t ≡ length s → read_part (suc p) (say s r) t ≡ read_part (suc p + length s) r (drop (length s) t))
          → read_part (suc p) (given x (say s r)) t ≡ read_part (p + suc (length s)) r (drop (length s) t)
      by true e later = rw (add-suc p (length s), ← suc-add p (length s)) (later (omega (arith, e)))
      by false e later = absurd (omega (arith, e))

  said-part : (p : ℕ) (s t : List ℕ) → common s t < length s → read_part p (say s r) t ≡ stop (p + common s t)
  unfolding common one_more read_part say given
  said-part p [] t h = absurd (omega (arith, h))
  said-part p (c ∷ s) [] h = rw (add-zero p)
  said-part p (c ∷ s) (b ∷ t) h = by (eqb b c) h (said-part (suc p) s t)
    where
      by : (x : Bool) → one_more x (common s t) < suc (length s)
          → (common s t < length s → read_part (suc p) (say s r) t ≡ stop (suc p + common s t))
          → read_part (suc p) (given x (say s r)) t ≡ stop (p + one_more x (common s t))
      by true h later = rw (add-suc p (common s t), ← suc-add p (common s t)) (later (omega (arith, h)))
      by false h later = let e : suc p - 1 ≡ p + 0 = omega arith in ap stop e

  -- All of these bytes stand there: the rest decides.
  pub say-on : (text : List ℕ) (at : ℕ) (s : List ℕ) → common s (drop at text) ≡ length s → read_at text at (say s r) ≡ read_at text (at + length s) r
  say-on text at s e = said_all at s (drop at text) e ∙ rw (drop-drop (length s) at text)

  -- Some do not.
  pub say-stops : (text : List ℕ) (at : ℕ) (s : List ℕ) → common s (drop at text) < length s → Stops text at (say s r) (at + common s (drop at text))
  say-stops text at s h = record { reading = said-part at s (drop at text) h }

  -- The same by a position up to which the text agrees.
  module _ (text : List ℕ) (at : ℕ) (s : List ℕ) {next : ℕ} (told : next ≡ at + common s (drop at text)) where
    pub run-stops : next - at < length s → Stops text at (say s r) next
    run-stops h = rw told (say-stops text at s (omega (arith, told)))

    pub run_on : length s ≤ next - at → read_at text at (say s r) ≡ read_at text next r
    run_on h =
        let all : common s (drop at text) ≡ length s = omega (arith, told, common-short s (drop at text)) in
        let there : at + length s ≡ next = omega (arith, told, all) in
        say-on text at s all ∙ ap (λ (p : ℕ). read_at text p r) there

-- Such a position lies in the text.
pub run_inside : (text : List ℕ) (at : ℕ) (s : List ℕ) {next : ℕ} → next ≡ at + common s (drop at text) → at ≤ length text → next ≤ length text
run_inside text at s told inside = omega (arith, told, common-inside s (drop at text), length-drop at text, inside)
