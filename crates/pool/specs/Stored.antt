-- What words stand for after a store: the slot that was stored has its form and its row, every other is as it was.
use Rattle.std.specs.Prelude.{◌≡◌, refl, Bool, ℤ}
use Rattle.std.proofs.Common.{ap, ap₂, ◌∙◌, add-zero}
use mathlib.Core.List.{List, [], ◌∷◌}
use Prim.Native.Nat.{ℕ, zero, suc, ◌+◌, ◌<◌, ◌≤◌}
use native.Mathlib.Omega.{arith}
use Rattle.std.proofs.Math.ListN.{length, get_or, set, length-set}
use Rattle.std.proofs.Math.Seq.{get_or-set_same, get_or-set_other}
use Rattle.rules.specs.Polynomial.{Term, Polynomial}
use Rattle.rules.specs.Pool.{Slot, cleared, slot_of}
use Rattle.terms.specs.View.{few}
use Rattle.pool.specs.Marks.{marks, row_word, marks-of-word}
use Rattle.pool.specs.Coefficients.{coefficient_of, coefficient_word, word_back}
use Rattle.pool.specs.Words.{terms_in, slot_place, slot_at, slots_from, put_term, put_terms, put_slot}

-- ---- What stays.

-- Terms are read at their places alone.
pub terms-kept : (words new : List ℕ) (i k : ℕ) → ((d : ℕ) → d < k → get_or new (i + d) 0 ≡ get_or words (i + d) 0)
    → ((d : ℕ) → d < k → get_or new (i + d + 16) 0 ≡ get_or words (i + d + 16) 0) → terms_in new i k ≡ terms_in words i k
unfolding terms_in
terms-kept words new i zero cs ms = refl
terms-kept words new i (suc k) cs ms =
    let zeroth : i + 0 ≡ i = omega arith in
    let c : get_or new i 0 ≡ get_or words i 0 = rw zeroth at (cs 0 (omega arith)) in
    let m : get_or new (i + 16) 0 ≡ get_or words (i + 16) 0 = rw zeroth at (ms 0 (omega arith)) in
    ap₂ (λ (t : Term) (ts : Polynomial). t ∷ ts) (ap₂ (λ (a b : ℕ). record { coefficient = coefficient_of a; monomial = b }) c m)
    (terms-kept words new (suc i) k
    (λ d h. let e : suc i + d ≡ i + suc d = omega arith in rw e (cs (suc d) (omega arith)))
    (λ d h. let e : suc i + d ≡ i + suc d = omega arith in rw e (ms (suc d) (omega arith))))

-- A slot is read at its 34 words alone.
pub slot_kept : (words new : List ℕ) (at : ℕ) → ((d : ℕ) → d < 34 → get_or new (at + d) 0 ≡ get_or words (at + d) 0) → slot_at new at ≡ slot_at words at
unfolding slot_at
slot_kept words new at each =
    let row : get_or new at 0 ≡ get_or words at 0 = rw (add-zero at) at (each 0 (omega arith)) in
    let many : get_or new (at + 1) 0 ≡ get_or words (at + 1) 0 = each 1 (omega arith) in
    rw (row, many) (ap (λ (p : Polynomial). slot_of p (marks 32 (get_or words at 0)))
    (terms-kept words new (at + 2) (few (get_or words (at + 1) 0))
    (λ d h. let e : at + 2 + d ≡ at + (2 + d) = omega arith in rw e (each (2 + d) (omega arith)))
    (λ d h. let e : at + 2 + d + 16 ≡ at + (18 + d) = omega arith in rw e (each (18 + d) (omega arith)))))

-- ---- Terms.

pub put-length : (words : List ℕ) (i : ℕ) (p : Polynomial) (k : ℕ) → length (put_terms words i p k) ≡ length words
unfolding put_terms
put-length words i p zero = refl
put-length words i [] (suc k) = put-length (put_term words i 0 0) (suc i) [] k ∙ length-set (set words i 0) (i + 16) 0 ∙ length-set words i 0
put-length words i (t ∷ p) (suc k) =
    put-length (put_term words i (coefficient_word t.coefficient) t.monomial) (suc i) p k
    ∙ length-set (set words i (coefficient_word t.coefficient)) (i + 16) t.monomial ∙ length-set words i (coefficient_word t.coefficient)

put_other : (words : List ℕ) (i c m j : ℕ) → (j ≡ i → ⊥) → (j ≡ i + 16 → ⊥) → get_or (put_term words i c m) j 0 ≡ get_or words j 0
put_other words i c m j a b = get_or-set_other (set words i c) (i + 16) j m 0 b ∙ get_or-set_other words i j c 0 a

-- Every other place keeps its word.
pub put-kept : (words : List ℕ) (i : ℕ) (p : Polynomial) (k j : ℕ) → ((d : ℕ) → d < k → j ≡ i + d → ⊥) → ((d : ℕ) → d < k → j ≡ i + d + 16 → ⊥)
    → get_or (put_terms words i p k) j 0 ≡ get_or words j 0
unfolding put_terms
put-kept words i p zero j a b = refl
put-kept words i [] (suc k) j a b =
    put-kept (put_term words i 0 0) (suc i) [] k j (λ d h e. a (suc d) (omega arith) (omega arith)) (λ d h e. b (suc d) (omega arith) (omega arith))
    ∙ put_other words i 0 0 j (λ e. a 0 (omega arith) (omega arith)) (λ e. b 0 (omega arith) (omega arith))
put-kept words i (t ∷ p) (suc k) j a b =
    put-kept (put_term words i (coefficient_word t.coefficient) t.monomial) (suc i) p k j (λ d h e. a (suc d) (omega arith) (omega arith))
    (λ d h e. b (suc d) (omega arith) (omega arith))
    ∙ put_other words i (coefficient_word t.coefficient) t.monomial j (λ e. a 0 (omega arith) (omega arith)) (λ e. b 0 (omega arith) (omega arith))

-- The terms stand at their places.
put-terms : (words : List ℕ) (i : ℕ) (p : Polynomial) (k : ℕ) → length p ≤ k → k ≤ 16 → i + 16 + k ≤ length words → terms_in (put_terms words i p k) i (length p) ≡ p
unfolding terms_in put_terms
put-terms words i [] k few most room = refl
put-terms words i (t ∷ p) zero few most room = absurd (omega arith)
put-terms words i (t ∷ p) (suc k) few most room =
    let c : ℕ = coefficient_word t.coefficient in
    let after : List ℕ = put_term words i c t.monomial in
    let same_length : length (set words i c) ≡ length words = length-set words i c in
    let all : length after ≡ length words = length-set (set words i c) (i + 16) t.monomial ∙ same_length in
    let first : get_or (put_terms after (suc i) p k) i 0 ≡ c =
    put-kept after (suc i) p k i (λ d h e. omega arith) (λ d h e. omega arith)
    ∙ get_or-set_other (set words i c) (i + 16) i t.monomial 0 (λ e. omega arith) ∙ get_or-set_same words i c 0 (omega arith) in
    let second : get_or (put_terms after (suc i) p k) (i + 16) 0 ≡ t.monomial =
    put-kept after (suc i) p k (i + 16) (λ d h e. omega arith) (λ d h e. omega arith)
    ∙ get_or-set_same (set words i c) (i + 16) t.monomial 0 (omega arith) in
    ap₂ (λ (u : Term) (us : Polynomial). u ∷ us)
    (ap₂ (λ (a : ℤ) (b : ℕ). record { coefficient = a; monomial = b }) (ap coefficient_of first ∙ word_back t.coefficient) second)
    (put-terms after (suc i) p k (omega arith) (omega arith) (omega arith))

-- ---- A slot.

module _ (words : List ℕ) (at : ℕ) (p : Polynomial) (row : List Bool) where
  pub slot-length : length (put_slot words at p row) ≡ length words
  unfolding put_slot
  slot-length = put-length (set (set words at (row_word row)) (at + 1) (length p)) (at + 2) p 16
      ∙ length-set (set words at (row_word row)) (at + 1) (length p) ∙ length-set words at (row_word row)

  -- Every other place keeps its word.
  pub slot-other : (j : ℕ) → ((d : ℕ) → d < 34 → j ≡ at + d → ⊥) → get_or (put_slot words at p row) j 0 ≡ get_or words j 0
  unfolding put_slot
  slot-other j out =
      put-kept (set (set words at (row_word row)) (at + 1) (length p)) (at + 2) p 16 j (λ d h e. out (2 + d) (omega arith) (omega arith))
      (λ d h e. out (18 + d) (omega arith) (omega arith))
      ∙ get_or-set_other (set words at (row_word row)) (at + 1) j (length p) 0 (λ e. out 1 (omega arith) e)
      ∙ get_or-set_other words at j (row_word row) 0 (λ e. out 0 (omega arith) (omega arith))

  -- The slot has the form and the row.
  pub slot-stored : length p ≤ 16 → length row ≡ 32 → at + 34 ≤ length words → slot_at (put_slot words at p row) at ≡ slot_of p row
  unfolding put_slot slot_at
  slot-stored few-terms long room =
      let first : List ℕ = set words at (row_word row) in
      let second : List ℕ = set first (at + 1) (length p) in
      let length-first : length first ≡ length words = length-set words at (row_word row) in
      let length-second : length second ≡ length words = length-set first (at + 1) (length p) ∙ length-first in
      let row_is : get_or (put_terms second (at + 2) p 16) at 0 ≡ row_word row =
      put-kept second (at + 2) p 16 at (λ d h e. omega arith) (λ d h e. omega arith)
      ∙ get_or-set_other first (at + 1) at (length p) 0 (λ e. omega arith) ∙ get_or-set_same words at (row_word row) 0 (omega arith) in
      let many_is : get_or (put_terms second (at + 2) p 16) (at + 1) 0 ≡ length p =
      put-kept second (at + 2) p 16 (at + 1) (λ d h e. omega arith) (λ d h e. omega arith)
      ∙ get_or-set_same first (at + 1) (length p) 0 (omega arith) in
      let clamped : few (length p) ≡ length p = omega arith in
      let marks-are : marks 32 (row_word row) ≡ row = rw long at (marks-of-word row) in
      rw (row_is, many_is, clamped, marks-are)
      (ap (λ (q : Polynomial). slot_of q row) (put-terms second (at + 2) p 16 few-terms (omega arith) (omega arith)))

-- ---- The slots.

pub slots_length : (words : List ℕ) (i k : ℕ) → length (slots_from words i k) ≡ k
unfolding slots_from
slots_length words i zero = refl
slots_length words i (suc k) = ap suc (slots_length words (suc i) k)

pub slots_at : (words : List ℕ) (i k d : ℕ) → d < k → get_or (slots_from words i k) d cleared ≡ slot_at words (slot_place (i + d))
unfolding slots_from
slots_at words i zero d h = absurd (omega arith)
slots_at words i (suc k) zero h = rw (add-zero i)
slots_at words i (suc k) (suc d) h = let e : i + suc d ≡ suc i + d = omega arith in rw e (slots_at words (suc i) k d (omega arith))

pub slots_kept : (words new : List ℕ) (i k : ℕ) → ((j : ℕ) → i ≤ j → j < i + k → slot_at new (slot_place j) ≡ slot_at words (slot_place j))
    → slots_from new i k ≡ slots_from words i k
unfolding slots_from
slots_kept words new i zero each = refl
slots_kept words new i (suc k) each =
    ap₂ (λ (s : Slot) (l : List Slot). s ∷ l) (each i (omega arith) (omega arith))
    (slots_kept words new (suc i) k (λ j h m. each j (omega arith) (omega arith)))

-- One slot changed: the others stay.
pub slots_set : (words new : List ℕ) (i k d : ℕ) (s : Slot) → slot_at new (slot_place (i + d)) ≡ s
    → ((j : ℕ) → (j ≡ i + d → ⊥) → slot_at new (slot_place j) ≡ slot_at words (slot_place j)) → slots_from new i k ≡ set (slots_from words i k) d s
unfolding slots_from
slots_set words new i zero d s e other = refl
slots_set words new i (suc k) zero s e other =
    ap₂ (λ (r : Slot) (l : List Slot). r ∷ l) (rw (add-zero i) at e) (slots_kept words new (suc i) k (λ j h m. other j (λ f. omega arith)))
slots_set words new i (suc k) (suc d) s e other =
    let next : i + suc d ≡ suc i + d = omega arith in
    ap₂ (λ (r : Slot) (l : List Slot). r ∷ l) (other i (λ f. omega arith)) (slots_set words new (suc i) k d s (rw next at e) (λ j f. other j (λ g. f (g ∙ next))))
