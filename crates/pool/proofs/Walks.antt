-- The walks over a pool's words, one step at a time: terms compared and stored, slots tested and counted, words cleared.
use mathlib.Core.Path.{◌≡◌, refl, sym, ap, ap₂, ◌∙◌}
use mathlib.Core.Bool.{Bool, true, false, ◌&&◌, ◌||◌}
use mathlib.Core.List.{List, [], ◌∷◌, ◌++◌, append_assoc}
use Prim.Native.Nat.{ℕ, zero, suc, ◌+◌, ◌-◌, ◌*◌, ◌<◌, ◌≤◌}
use native.Mathlib.Nat.{add-zero}
use native.Mathlib.Numerals.{add-one}
use native.Mathlib.Omega.{arith}
use lib.Dec.{eqb, ltb}
use borrow.Author.Tests.{lt-ltb, le-ltb, ltb-true}
use lib.IntN.{ℤ, pos}
use lib.ListN.{length, get_or, set, take, drop, replicate, length-set, take-append-drop}
use lib.Seq.{take-suc-set}
use Rattle.std.proofs.lemmas.List.{drop-set-lt}
use Rattle.rules.specs.Polynomial.{Polynomial, same_number, same}
use Rattle.rules.specs.Answer.{knows}
use Rattle.sign_laws.specs.Booleans.{and-false, both_ways}
use Rattle.rules.specs.Pool.{either, Slot, is_free, stores, forms_in_use}
use Rattle.pool_laws.specs.Places.{first_place, used_slots, some_stores, known-stores, place_for}
use Rattle.terms.specs.View.{terms_from}
use Rattle.pool.specs.Coefficients.{coefficient_of, coefficient_word}
use Rattle.pool.specs.Marks.{marks, row_word}
use Rattle.pool.specs.Words.{terms_in, slot_place, slot_at, slots_from, slots_of, put_term, put_terms, put_slot, listed_words, zeros, unlisted}
use Rattle.pool.specs.Words.{all_unlisted}
use Rattle.pool.specs.Stored.{slots_length}

-- ---- Terms compared.

module _ (words : List ℕ) (k : ℕ) (cs : List ℤ) (ms : List ℕ) (from i count : ℕ) where
  -- Whether the terms behind the first i are the same.
  abbrev pub same_left : Bool
  same_left = same (terms_from cs ms (from + i) (count - i)) (terms_in words (k + i) (count - i))

abbrev pub same_term : List ℕ → ℕ → ℤ → ℕ → Bool
same_term words k c m = eqb m (get_or words (k + 16) 0) && same_number c (coefficient_of (get_or words k 0))

module _ (words : List ℕ) (k : ℕ) (cs : List ℤ) (ms : List ℕ) (from i count : ℕ) where
  same_step : i < count → same_left words k cs ms from i count
      ≡ (same_term words (k + i) (get_or cs (from + i) (pos 0)) (get_or ms (from + i) 0) && same_left words k cs ms from (i + 1) count)
  unfolding same terms_from terms_in
  same_step h =
      let left : count - i ≡ suc (count - (i + 1)) = omega arith in
      let a : suc (from + i) ≡ from + (i + 1) = omega arith in
      let b : suc (k + i) ≡ k + (i + 1) = omega arith in
      rw (left, a, b)

  pub same-goes-on : i < count → same_term words (k + i) (get_or cs (from + i) (pos 0)) (get_or ms (from + i) 0) ≡ true
      → same_left words k cs ms from (i + 1) count ≡ same_left words k cs ms from i count
  same-goes-on h e = sym (same_step h ∙ ap (λ (t : Bool). t && same_left words k cs ms from (i + 1) count) e)

  pub same-stops : i < count → same_term words (k + i) (get_or cs (from + i) (pos 0)) (get_or ms (from + i) 0) ≡ false
      → false ≡ same_left words k cs ms from i count
  same-stops h e = sym (same_step h ∙ ap (λ (t : Bool). t && same_left words k cs ms from (i + 1) count) e)

  pub same_end : count ≤ i → true ≡ same_left words k cs ms from i count
  unfolding same terms_from terms_in
  same_end h = let none : count - i ≡ 0 = omega arith in rw none

-- Forms of different length are not the same.
pub other-count : (cs : List ℤ) (ms words : List ℕ) (a b k n : ℕ) → (k ≡ n → ⊥) → same (terms_from cs ms a k) (terms_in words b n) ≡ false
unfolding same terms_from terms_in
other-count cs ms words a b zero zero h = absurd (h refl)
other-count cs ms words a b zero (suc n) h = refl
other-count cs ms words a b (suc k) zero h = refl
other-count cs ms words a b (suc k) (suc n) h =
    ap (λ (t : Bool). same_term words b (get_or cs a (pos 0)) (get_or ms a 0) && t) (other-count cs ms words (suc a) (suc b) k n (λ e. h (ap suc e)))
    ∙ and-false (same_term words b (get_or cs a (pos 0)) (get_or ms a 0))

-- ---- Slots tested.

module _ (test : Slot → Bool) (words : List ℕ) where
  -- The first slot from i on that passes.
  abbrev pub first_from : ℕ → ℕ
  first_from i = i + first_place test (slots_from words i (128 - i))

  pub first_step : (i : ℕ) → i < 128 → test (slot_at words (slot_place i)) ≡ false → first_from (i + 1) ≡ first_from i
  unfolding first_place slots_from either
  first_step i h e =
      let left : 128 - i ≡ suc (128 - (i + 1)) = omega arith in rw (left, e, ← add-one i) (omega arith)

  pub first_found : (i : ℕ) → i < 128 → test (slot_at words (slot_place i)) ≡ true → i ≡ first_from i
  unfolding first_place slots_from either
  first_found i h e = let left : 128 - i ≡ suc (128 - (i + 1)) = omega arith in rw (left, e) (omega arith)

  pub first-none : 128 ≡ first_from 128
  unfolding first_place slots_from
  first-none = refl

-- ---- Slots counted.

module _ (words : List ℕ) where
  abbrev pub used_from : ℕ → ℕ
  used_from i = used_slots (slots_from words i (128 - i))

  pub used_step : (i : ℕ) → i < 128 → is_free (slot_at words (slot_place i)) ≡ false → used_from i ≡ suc (used_from (i + 1))
  unfolding used_slots slots_from either
  used_step i h e = let left : 128 - i ≡ suc (128 - (i + 1)) = omega arith in rw (left, e, ← add-one i)

  pub free_step : (i : ℕ) → i < 128 → is_free (slot_at words (slot_place i)) ≡ true → used_from i ≡ used_from (i + 1)
  unfolding used_slots slots_from either
  free_step i h e = let left : 128 - i ≡ suc (128 - (i + 1)) = omega arith in rw (left, e, ← add-one i)

  pub used-none : used_from 128 ≡ 0
  unfolding used_slots slots_from
  used-none = refl

-- ---- Terms stored.

module _ (words : List ℕ) (k : ℕ) (cs : List ℤ) (ms : List ℕ) (from count i : ℕ) where
  -- What is still to be stored, behind the first i terms.
  abbrev pub put_from : List ℕ
  put_from = put_terms words (k + i) (terms_from cs ms (from + i) (count - i)) (16 - i)

module _ (words : List ℕ) (k : ℕ) (cs : List ℤ) (ms : List ℕ) (from count i : ℕ) where
  pub put_step : i < count → i < 16
      → put_from (put_term words (k + i) (coefficient_word (get_or cs (from + i) (pos 0))) (get_or ms (from + i) 0)) k cs ms from count (i + 1)
      ≡ put_from words k cs ms from count i
  unfolding put_terms terms_from
  put_step h m =
      let left : count - i ≡ suc (count - (i + 1)) = omega arith in
      let places : 16 - i ≡ suc (16 - (i + 1)) = omega arith in
      let a : suc (from + i) ≡ from + (i + 1) = omega arith in
      let b : suc (k + i) ≡ k + (i + 1) = omega arith in
      sym (
      ap₂ (λ (n l : ℕ). put_terms words (k + i) (terms_from cs ms (from + i) n) l) left places
      ∙ ap₂ (λ (f j : ℕ). put_terms (put_term words (k + i) (coefficient_word (get_or cs (from + i) (pos 0))) (get_or ms (from + i) 0)) j
      (terms_from cs ms f (count - (i + 1))) (16 - (i + 1))) a b
      )

  pub zero-step : count ≤ i → i < 16 → put_from (put_term words (k + i) 0 0) k cs ms from count (i + 1) ≡ put_from words k cs ms from count i
  unfolding put_terms terms_from
  zero-step h m =
      let none : count - i ≡ 0 = omega arith in
      let later : count - (i + 1) ≡ 0 = omega arith in
      let places : 16 - i ≡ suc (16 - (i + 1)) = omega arith in
      let b : suc (k + i) ≡ k + (i + 1) = omega arith in
      ap (λ (n : ℕ). put_terms (put_term words (k + i) 0 0) (k + (i + 1)) (terms_from cs ms (from + (i + 1)) n) (16 - (i + 1))) later
      ∙ sym (
      ap₂ (λ (n l : ℕ). put_terms words (k + i) (terms_from cs ms (from + i) n) l) none places
      ∙ ap (λ (j : ℕ). put_terms (put_term words (k + i) 0 0) j [] (16 - (i + 1))) b
      )

  pub put-end : 16 ≤ i → put_from words k cs ms from count i ≡ words
  unfolding put_terms
  put-end h = let places : 16 - i ≡ 0 = omega arith in rw places

-- ---- Words cleared.

-- A part filled with zeros is what clearing its words, one after the other, comes to.
pub zeros-filled : (words : List ℕ) (at n : ℕ) → at + n ≤ length words → take at words ++ (replicate n 0 ++ drop (at + n) words) ≡ zeros words at n
unfolding zeros
zeros-filled words at zero h = rw (add-zero at) (take-append-drop at words)
zeros-filled words at (suc n) h =
    let e : at + suc n ≡ suc at + n = omega arith in
    ap (λ (k : ℕ). take at words ++ (0 ∷ (replicate n 0 ++ drop k words))) e
    ∙ sym (append_assoc (take at words) (0 ∷ []) (replicate n 0 ++ drop (suc at + n) words))
    ∙ sym (ap₂ (λ (l r : List ℕ). l ++ (replicate n 0 ++ r)) (take-suc-set words at 0 (omega arith)) (drop-set-lt (suc at + n) words at 0 (omega arith)))
    ∙ zeros-filled (set words at 0) (suc at) n (omega (arith, length-set words at 0))

-- ---- The place of a form.

stores-first : (p : Polynomial) (slots : List Slot) → some_stores p slots ≡ ltb (first_place (stores p) slots) (length slots)
unfolding some_stores first_place either
stores-first p [] = refl
stores-first p (slot ∷ slots) = by-test (stores p slot) (stores-first p slots)
  where
    by-test : (b : Bool) → some_stores p slots ≡ ltb (first_place (stores p) slots) (length slots)
        → (b || some_stores p slots) ≡ ltb (either b 0 (suc (first_place (stores p) slots))) (suc (length slots))
    by-test true e = sym (lt-ltb 0 (suc (length slots)) (omega arith))
    by-test false e =
        e ∙ both_ways (ltb (first_place (stores p) slots) (length slots)) (ltb (suc (first_place (stores p) slots)) (suc (length slots)))
        (λ f. let g = ltb-true (first_place (stores p) slots) (length slots) f in lt-ltb (suc (first_place (stores p) slots)) (suc (length slots)) (omega (arith, g)))
        (λ f. let g = ltb-true (suc (first_place (stores p) slots)) (suc (length slots)) f in lt-ltb (first_place (stores p) slots) (length slots) (omega (arith, g)))

-- Whether a form is in use is whether the search finds a slot.
pub known-found : (p : Polynomial) (words : List ℕ) → knows (forms_in_use (slots_of words)) p ≡ ltb (first_place (stores p) (slots_of words)) 128
known-found p words = known-stores p (slots_of words) ∙ stores-first p (slots_of words) ∙ ap (ltb (first_place (stores p) (slots_of words))) (slots_length words 0 128)

pub placed-stored : (p : Polynomial) (words : List ℕ) → first_place (stores p) (slots_of words) < 128
    → first_place (stores p) (slots_of words) ≡ place_for p (slots_of words)
unfolding place_for either
placed-stored p words h =
    sym (ap (λ (b : Bool). either b (first_place (stores p) (slots_of words)) (first_place is_free (slots_of words)))
    (stores-first p (slots_of words) ∙ lt-ltb (first_place (stores p) (slots_of words)) (length (slots_of words)) (omega (arith, slots_length words 0 128))))

pub placed-free : (p : Polynomial) (words : List ℕ) → 128 ≤ first_place (stores p) (slots_of words)
    → first_place is_free (slots_of words) ≡ place_for p (slots_of words)
unfolding place_for either
placed-free p words h =
    sym (ap (λ (b : Bool). either b (first_place (stores p) (slots_of words)) (first_place is_free (slots_of words)))
    (stores-first p (slots_of words) ∙ le-ltb (first_place (stores p) (slots_of words)) (length (slots_of words)) (omega (arith, slots_length words 0 128))))

pub terms-length : (cs : List ℤ) (ms : List ℕ) (i k : ℕ) → length (terms_from cs ms i k) ≡ k
unfolding terms_from
terms-length cs ms i zero = refl
terms-length cs ms i (suc k) = ap suc (terms-length cs ms (suc i) k)

-- A form stored at its place.
module _ (number : ℕ) (words : List ℕ) (p : Polynomial) where
  pub listed-stored : (place w n : ℕ) → place ≡ place_for p (slots_of words) → place < 128
      → w ≡ row_word (set (marks 32 (get_or words (slot_place place) 0)) number true) → n ≡ length p
      → put_terms (set (set words (slot_place place) w) (slot_place place + 1) n) (slot_place place + 2) p 16 ≡ listed_words number words p
  unfolding listed_words either put_slot
  listed-stored place w n e h f g =
      ap₂ (λ (v m : ℕ). put_terms (set (set words (slot_place place) v) (slot_place place + 1) m) (slot_place place + 2) p 16) f g
      ∙ sym (ap (λ (b : Bool). either b (put_slot words (slot_place place) p (set (marks 32 (get_or words (slot_place place) 0)) number true)) words) (lt-ltb place 128 h))
      ∙ ap (λ (k : ℕ). either (ltb k 128) (put_slot words (slot_place k) p (set (marks 32 (get_or words (slot_place k) 0)) number true)) words) e

  pub listed-none : (place : ℕ) → place ≡ place_for p (slots_of words) → 128 ≤ place → words ≡ listed_words number words p
  unfolding listed_words either
  listed-none place e h =
      sym (ap (λ (b : Bool). either b (put_slot words (slot_place place) p (set (marks 32 (get_or words (slot_place place) 0)) number true)) words) (le-ltb place 128 h))
      ∙ ap (λ (k : ℕ). either (ltb k 128) (put_slot words (slot_place k) p (set (marks 32 (get_or words (slot_place k) 0)) number true)) words) e

-- ---- A number taken away, slot by slot.

pub unlist-step : (number : ℕ) (words : List ℕ) (i : ℕ) → i < 128
    → all_unlisted number (unlisted number words (2 + 34 * i)) (i + 1) (128 - (i + 1)) ≡ all_unlisted number words i (128 - i)
unfolding all_unlisted
unlist-step number words i h =
    let left : 128 - i ≡ suc (128 - (i + 1)) = omega arith in
    sym (ap (all_unlisted number words i) left ∙ ap (λ (j : ℕ). all_unlisted number (unlisted number words (2 + 34 * i)) j (128 - (i + 1))) (sym (add-one i)))

pub unlist-end : (number : ℕ) (words : List ℕ) (i : ℕ) → 128 ≤ i → all_unlisted number words i (128 - i) ≡ words
unfolding all_unlisted
unlist-end number words i h = let left : 128 - i ≡ 0 = omega arith in rw left
