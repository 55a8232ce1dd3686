-- The polynomial that was read, compared with those in the slots; and the texts of those in the slots, one after the other.
use mathlib.Core.Bool.{Bool, true, false, ◌&&◌}
use mathlib.Core.List.{List, [], ◌∷◌, ◌++◌}
use mathlib.Core.Path.{◌≡◌, refl, sym, ap, ◌∙◌}
use Prim.Native.Nat.{ℕ, zero, suc, ◌+◌, ◌-◌, ◌*◌, ◌<◌, ◌≤◌}
use native.Mathlib.Numerals.{add-one}
use native.Mathlib.Omega.{arith}
use lib.IntN.{ℤ}
use lib.ListN.{length, get_or, take, set}
use lib.Seq.{take-suc-set}
use Rattle.rules.specs.Polynomial.{same}
use Rattle.terms.specs.View.{terms_from}
use Rattle.sign_laws.specs.Booleans.{and-false}
use Rattle.forms.specs.Slots.{slot_of}
use Rattle.forms.specs.Working.{TableRead}
use Rattle.lines.specs.Written.{Wrote, wrote-long, front-again}
use Rattle.rules.specs.Text.{polynomial_text}
use Rattle.script_laws.specs.Length.{length-polynomial}
use Rattle.script_polynomial.specs.Agreement.{common}
use Rattle.script_polynomial.specs.Slots.{same_at, larger, agreement, text_at, texts_from, SlotWithin}

-- ---- Two runs of terms.

-- Whether what is left of both is the same, behind the first i terms.
abbrev pub same_left : List ℤ → List ℕ → List ℤ → List ℕ → ℕ → ℕ → ℕ → Bool
same_left cs ms vs ps place count i = same (terms_from vs ps i (count - i)) (terms_from cs ms (place + i) (count - i))

module _ (cs : List ℤ) (ms : List ℕ) (vs : List ℤ) (ps : List ℕ) (place count i : ℕ) where
  same_step : i < count → same_left cs ms vs ps place count i ≡ (same_at cs ms vs ps (place + i) i && same_left cs ms vs ps place count (i + 1))
  unfolding same terms_from
  same_step h =
      let left : count - i ≡ suc (count - (i + 1)) = omega arith in
      let a : suc (place + i) ≡ place + (i + 1) = omega arith in
      rw (left, a, add-one i)

  pub same-goes-on : i < count → same_at cs ms vs ps (place + i) i ≡ true → same_left cs ms vs ps place count
      (i + 1) ≡ same_left cs ms vs ps place count i
  same-goes-on h e = sym (same_step h ∙ ap (λ (t : Bool). t && same_left cs ms vs ps place count (i + 1)) e)

  pub same-stops : i < count → same_at cs ms vs ps (place + i) i ≡ false → false ≡ same_left cs ms vs ps place count i
  same-stops h e = sym (same_step h ∙ ap (λ (t : Bool). t && same_left cs ms vs ps place count (i + 1)) e)

  pub same_end : count ≤ i → true ≡ same_left cs ms vs ps place count i
  unfolding same terms_from
  same_end h = let none : count - i ≡ 0 = omega arith in rw none

-- Runs of different length are not the same.
pub other-count : (cs : List ℤ) (ms : List ℕ) (vs : List ℤ) (ps : List ℕ) (a b k n : ℕ) → (n ≡ k → ⊥) → false ≡ same (terms_from vs ps a k)
    (terms_from cs ms b n)
unfolding same terms_from
other-count cs ms vs ps a b zero zero h = absurd (h refl)
other-count cs ms vs ps a b zero (suc n) h = refl
other-count cs ms vs ps a b (suc k) zero h = refl
other-count cs ms vs ps a b (suc k) (suc n) h = sym (and-false (same_at cs ms vs ps b a))
    ∙ ap (λ (t : Bool). same_at cs ms vs ps b a && t) (other-count cs ms vs ps (suc a) (suc b) k n (λ e. h (ap suc e)))

-- ---- The slots of a table.

pub length-terms : (cs : List ℤ) (ms : List ℕ) (i k : ℕ) → length (terms_from cs ms i k) ≡ k
unfolding terms_from
length-terms cs ms i zero = refl
length-terms cs ms i (suc k) = ap suc (length-terms cs ms (suc i) k)

module _ {cs : List ℤ} {ms ts : List ℕ} {known n : ℕ} (read : TableRead cs ms ts known n) where
  pub slot-within : (slot : ℕ) → slot < known → SlotWithin cs ms ts n slot
  slot-within slot h =
      let most = (read.within slot h).at-most in
      let few : get_or ts slot 0 ≤ 16 = omega (arith, most, length-terms cs ms (16 * slot) (get_or ts slot 0)) in
      let least = read.polynomials in
      record {
        variables = read.variables;
        counts = omega (arith, read.counts, least, h);
        room = record { coefficients = omega (arith, few, read.coefficients, least, h); monomials = omega (arith, few, read.monomials, least, h) };
        within = read.within slot h;
      }

-- ---- The text of one.

module _ {cs : List ℤ} {ms ts : List ℕ} {n slot : ℕ} (h : SlotWithin cs ms ts n slot) where
  pub slot-short : length (polynomial_text n (slot_of cs ms ts slot)) ≤ 7957
  slot-short = length-polynomial n h.variables (slot_of cs ms ts slot) h.within

-- A run that was written at the front, with a byte put behind it.
pub front-and : {before after bytes : List ℕ} {end : ℕ} (byte : ℕ) → Wrote before after 0 bytes end → length bytes < length before
    → take (end + 1) (set after end byte) ≡ bytes ++ (byte ∷ [])
front-and {before} {after} {bytes} {end} byte w room =
    let inside : end < length after = omega (arith, w.behind, wrote-long w, room) in
    rw (add-one end, take-suc-set after end byte inside, front-again (omega (arith, room)) w)

-- ---- The longest agreement.

module _ (n : ℕ) (cs : List ℤ) (ms ts t : List ℕ) (known : ℕ) where
  -- With the texts from number i on.
  abbrev pub agrees_from : ℕ → ℕ
  agrees_from i = agreement (texts_from n cs ms ts i (known - i)) t

  pub agrees-none : agrees_from known ≡ 0
  unfolding agreement texts_from
  agrees-none = let none : known - known ≡ 0 = omega arith in rw none

  pub agrees-one-more : (i : ℕ) → 0 < i → i ≤ known → agrees_from (i - 1) ≡ larger (common (text_at n cs ms ts (i - 1)) t) (agrees_from i)
  unfolding agreement texts_from
  agrees-one-more i some l =
      let left : known - (i - 1) ≡ suc (known - i) = omega arith in
      let next : suc (i - 1) ≡ i = omega arith in
      rw (left, next)
