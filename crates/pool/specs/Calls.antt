-- The words after a call stand for the pool after the call: forms listed one after the other, and a number taken away from every slot.
use Rattle.std.specs.Prelude.{◌≡◌, eqb, ltb}
use Rattle.std.proofs.Math.Path.{refl, sym, ap, ap₂}
use Rattle.std.proofs.Common.{◌∙◌, zero-add, ltb-true, ltb-false}
use Rattle.std.proofs.Math.Bool.{Bool, true, false}
use mathlib.Core.List.{List, [], ◌∷◌, map}
use Prim.Native.Nat.{ℕ, zero, suc, ◌+◌, ◌<◌, ◌≤◌}
use native.Mathlib.Omega.{arith}
use Rattle.std.proofs.Math.Dec.{eqb-suc-zero}
use Rattle.std.proofs.Math.ListN.{length, get_or, set, length-set}
use Rattle.std.proofs.Math.Seq.{get_or-set_same, get_or-set_other, set_out}
use Rattle.rules.specs.Polynomial.{Polynomial}
use Rattle.sign_laws.specs.Lists.{Every, every_none, every}
use Rattle.rules.specs.Pool.{either, count, Slot, Pool, cleared, slot_of, marked, list_form, list_forms, unless_unused, unmarked, unless_none}
use Rattle.pool_laws.specs.Places.{place_for, list_at}
use Rattle.terms.specs.View.{few}
use Rattle.pool.specs.Marks.{marks, row_word, marks-length, marks-of-word}
use Rattle.pool.specs.Words.{terms_in, slot_place, slot_at, slots_from, slots_of, pool_of, put_slot, listed_words, all_listed, added_words, unlisted}
use Rattle.pool.specs.Words.{zeros, all_unlisted, withdrawn_words}
use Rattle.pool.specs.Stored.{terms-kept, slot_kept, slot-length, slot-other, slot-stored, slots_length, slots_at, slots_set, slots_kept}

-- A form of a slot's sixteen places at most.
abbrev pub Fits : Polynomial → Type 0
Fits p = length p ≤ 16

set_long : (w i : ℕ) (b : Bool) → length (set (marks 32 w) i b) ≡ 32
set_long w i b = length-set (marks 32 w) i b ∙ marks-length 32 w

marks-back : (row : List Bool) → length row ≡ 32 → marks 32 (row_word row) ≡ row
marks-back row e = rw e at (marks-of-word row)

same-pool : {v w : ℕ} {r s : List Bool} {l m : List Slot} → v ≡ w → r ≡ s → l ≡ m
    → ◌≡◌ {A = Pool} (record { variables = v; present = r; slots = l }) (record { variables = w; present = s; slots = m })
same-pool e f g = cc

-- ---- Listing.

module _ (number : ℕ) where
  pub listed-length : (words : List ℕ) (p : Polynomial) → length (listed_words number words p) ≡ length words
  unfolding listed_words either
  listed-length words p = by-test (ltb (place_for p (slots_of words)) 128)
    where
      by-test : (b : Bool) → length (either b (put_slot words (slot_place (place_for p (slots_of words))) p
          (set (marks 32 (get_or words (slot_place (place_for p (slots_of words))) 0)) number true)) words) ≡ length words
      by-test true = slot-length words (slot_place (place_for p (slots_of words))) p (set (marks 32 (get_or words (slot_place (place_for p (slots_of words))) 0)) number true)
      by-test false = refl

  -- The first two words stay.
  pub listed-first : (words : List ℕ) (p : Polynomial) (j : ℕ) → j < 2 → get_or (listed_words number words p) j 0 ≡ get_or words j 0
  unfolding listed_words either
  listed-first words p j h = by-test (ltb (place_for p (slots_of words)) 128)
    where
      by-test : (b : Bool) → get_or (either b (put_slot words (slot_place (place_for p (slots_of words))) p
          (set (marks 32 (get_or words (slot_place (place_for p (slots_of words))) 0)) number true)) words) j 0 ≡ get_or words j 0
      by-test true = slot-other words (slot_place (place_for p (slots_of words))) p
          (set (marks 32 (get_or words (slot_place (place_for p (slots_of words))) 0)) number true) j (λ d l e. omega arith)
      by-test false = refl

  put-listed : (words : List ℕ) (p : Polynomial) (place : ℕ) → 4354 ≤ length words → Fits p → place < 128
      → slots_of (put_slot words (slot_place place) p (set (marks 32 (get_or words (slot_place place) 0)) number true))
      ≡ set (slots_of words) place (marked number p (get_or (slots_of words) place cleared))
  unfolding marked slot_at slot_of
  put-listed words p place room fits below =
      let row : List Bool = set (marks 32 (get_or words (slot_place place) 0)) number true in
      let new : List ℕ = put_slot words (slot_place place) p row in
      let stored : slot_at new (slot_place place) ≡ slot_of p row = slot-stored words (slot_place place) p row fits (set_long (get_or words (slot_place place) 0) number true) (omega arith) in
      let before : get_or (slots_of words) place cleared ≡ slot_at words (slot_place place) = slots_at words 0 128 place below ∙ rw (zero-add place) in
      slots_set words new 0 128 place (slot_of p row) (rw (zero-add place) stored)
      (λ j other. slot_kept words new (slot_place j) (λ d h. slot-other words (slot_place place) p row (slot_place j + d) (λ e l f. other (omega arith))))
      ∙ rw before

  pub listed-slots : (words : List ℕ) (p : Polynomial) → 4354 ≤ length words → Fits p
      → slots_of (listed_words number words p) ≡ list_form number (slots_of words) p
  unfolding listed_words either
  listed-slots words p room fits = by-test (ltb (place_for p (slots_of words)) 128) refl ∙ sym (list_at number (slots_of words) p)
    where
      place : ℕ
      place = place_for p (slots_of words)

      by-test : (b : Bool) → ltb (place_for p (slots_of words)) 128 ≡ b → slots_of (either b (put_slot words (slot_place (place_for p (slots_of words))) p
          (set (marks 32 (get_or words (slot_place (place_for p (slots_of words))) 0)) number true)) words)
          ≡ set (slots_of words) (place_for p (slots_of words)) (marked number p (get_or (slots_of words) (place_for p (slots_of words)) cleared))
      by-test true e = put-listed words p (place_for p (slots_of words)) room fits (ltb-true (place_for p (slots_of words)) 128 e)
      by-test false e = sym (set_out (slots_of words) (place_for p (slots_of words)) (marked number p (get_or (slots_of words) (place_for p (slots_of words)) cleared))
          (let h = ltb-false (place_for p (slots_of words)) 128 e in omega (arith, h, slots_length words 0 128)))

  pub all-listed-length : (words : List ℕ) (ps : List Polynomial) → length (all_listed number words ps) ≡ length words
  unfolding all_listed
  all-listed-length words [] = refl
  all-listed-length words (p ∷ ps) = all-listed-length (listed_words number words p) ps ∙ listed-length words p

  all-listed-first : (words : List ℕ) (ps : List Polynomial) (j : ℕ) → j < 2 → get_or (all_listed number words ps) j 0 ≡ get_or words j 0
  unfolding all_listed
  all-listed-first words [] j h = refl
  all-listed-first words (p ∷ ps) j h = all-listed-first (listed_words number words p) ps j h ∙ listed-first words p j h

  all-listed-slots : (words : List ℕ) {ps : List Polynomial} → 4354 ≤ length words → Every Fits ps
      → slots_of (all_listed number words ps) ≡ list_forms number (slots_of words) ps
  unfolding all_listed list_forms
  all-listed-slots words room every_none = refl
  all-listed-slots words room (every {a = p} {l = ps} fits others) =
      all-listed-slots (listed_words number words p) (omega (arith, listed-length words p)) others
      ∙ ap (λ (l : List Slot). list_forms number l ps) (listed-slots words p room fits)

-- A store among the first two words leaves the slots.
first-slots : (words : List ℕ) (i v : ℕ) → i < 2 → slots_of (set words i v) ≡ slots_of words
first-slots words i v h =
    slots_kept words (set words i v) 0 128 (λ j l m. slot_kept words (set words i v) (slot_place j)
    (λ d k. get_or-set_other words i (slot_place j + d) v 0 (λ e. omega arith)))

-- The words after an addition.
pub added-pool : (number n : ℕ) (words : List ℕ) {forms : List Polynomial} → 4354 ≤ length words → Every Fits forms
    → pool_of (added_words number n forms words)
    ≡ record { variables = n; present = set (pool_of words).present number true; slots = list_forms number (pool_of words).slots forms }
unfolding pool_of added_words
added-pool number n words {forms} room fits =
    let all : List ℕ = all_listed number words forms in
    let row : List Bool = set (marks 32 (get_or words 1 0)) number true in
    let long : length all ≡ length words = all-listed-length number words forms in
    let long-first : length (set all 0 n) ≡ length words = length-set all 0 n ∙ long in
    let new : List ℕ = set (set all 0 n) 1 (row_word row) in
    let variables_are : get_or new 0 0 ≡ n = get_or-set_other (set all 0 n) 1 0 (row_word row) 0 (λ e. omega arith) ∙ get_or-set_same all 0 n 0 (omega arith) in
    let present-is : get_or new 1 0 ≡ row_word row = get_or-set_same (set all 0 n) 1 (row_word row) 0 (omega arith) in
    let slots-are : slots_of new ≡ list_forms number (slots_of words) forms =
    first-slots (set all 0 n) 1 (row_word row) (omega arith) ∙ first-slots all 0 n (omega arith) ∙ all-listed-slots number words room fits in
    same-pool variables_are (ap (marks 32) present-is ∙ marks-back row (set_long (get_or words 1 0) number true)) slots-are

-- ---- Withdrawing.

few-none : few 0 ≡ 0
few-none = omega arith

module _ (number : ℕ) where
  zeros-length : (words : List ℕ) (at k : ℕ) → length (zeros words at k) ≡ length words
  unfolding zeros
  zeros-length words at zero = refl
  zeros-length words at (suc k) = zeros-length (set words at 0) (suc at) k ∙ length-set words at 0

  zeros-other : (words : List ℕ) (at k j : ℕ) → ((d : ℕ) → d < k → j ≡ at + d → ⊥) → get_or (zeros words at k) j 0 ≡ get_or words j 0
  unfolding zeros
  zeros-other words at zero j out = refl
  zeros-other words at (suc k) j out =
      zeros-other (set words at 0) (suc at) k j (λ d h e. out (suc d) (omega arith) (omega arith))
      ∙ get_or-set_other words at j 0 0 (λ e. out 0 (omega arith) (omega arith))

  zeros-at : (words : List ℕ) (at k d : ℕ) → d < k → at + k ≤ length words → get_or (zeros words at k) (at + d) 0 ≡ 0
  unfolding zeros
  zeros-at words at zero d h room = absurd (omega arith)
  zeros-at words at (suc k) zero h room =
      let e : at + 0 ≡ at = omega arith in
      rw e (zeros-other (set words at 0) (suc at) k at (λ d l f. omega arith) ∙ get_or-set_same words at 0 0 (omega arith))
  zeros-at words at (suc k) (suc d) h room =
      let e : at + suc d ≡ suc at + d = omega arith in
      rw e (zeros-at (set words at 0) (suc at) k d (omega arith) (omega (arith, length-set words at 0)))

  pub unlisted-length : (words : List ℕ) (at : ℕ) → length (unlisted number words at) ≡ length words
  unfolding unlisted either
  unlisted-length words at = by-test (eqb (count (set (marks 32 (get_or words at 0)) number false)) 0)
    where
      by-test : (b : Bool) → length (either b (zeros words at 34) (set words at (row_word (set (marks 32 (get_or words at 0)) number false)))) ≡ length words
      by-test true = zeros-length words at 34
      by-test false = length-set words at (row_word (set (marks 32 (get_or words at 0)) number false))

  unlisted-other : (words : List ℕ) (at j : ℕ) → ((d : ℕ) → d < 34 → j ≡ at + d → ⊥) → get_or (unlisted number words at) j 0 ≡ get_or words j 0
  unfolding unlisted either
  unlisted-other words at j out = by-test (eqb (count (set (marks 32 (get_or words at 0)) number false)) 0)
    where
      by-test : (b : Bool) → get_or (either b (zeros words at 34) (set words at (row_word (set (marks 32 (get_or words at 0)) number false)))) j 0 ≡ get_or words j 0
      by-test true = zeros-other words at 34 j out
      by-test false = get_or-set_other words at j (row_word (set (marks 32 (get_or words at 0)) number false)) 0 (λ e. out 0 (omega arith) (omega arith))

  zeros-slot : (words : List ℕ) (at : ℕ) → at + 34 ≤ length words → slot_at (zeros words at 34) at ≡ cleared
  unfolding slot_at slot_of cleared marks count terms_in
  zeros-slot words at room =
      let row : get_or (zeros words at 34) at 0 ≡ 0 = let e : at + 0 ≡ at = omega arith in rw e at (zeros-at words at 34 0 (omega arith) room) in
      let many : get_or (zeros words at 34) (at + 1) 0 ≡ 0 = zeros-at words at 34 1 (omega arith) room in
      rw (row, many)

  row-slot : (words : List ℕ) (at : ℕ) (row : List Bool) → at + 34 ≤ length words → length row ≡ 32
      → slot_at (set words at (row_word row)) at ≡ slot_of (slot_at words at).form row
  unfolding slot_at slot_of
  row-slot words at row room long =
      let new : List ℕ = set words at (row_word row) in
      let first : get_or new at 0 ≡ row_word row = get_or-set_same words at (row_word row) 0 (omega arith) in
      let other : (j : ℕ) → (j ≡ at → ⊥) → get_or new j 0 ≡ get_or words j 0 = λ j e. get_or-set_other words at j (row_word row) 0 e in
      let many : get_or new (at + 1) 0 ≡ get_or words (at + 1) 0 = other (at + 1) (λ e. omega arith) in
      ap₂ slot_of
      (ap (λ (k : ℕ). terms_in new (at + 2) (few k)) many
      ∙ terms-kept words new (at + 2) (few (get_or words (at + 1) 0)) (λ d h. other (at + 2 + d) (λ e. omega arith)) (λ d h. other (at + 2 + d + 16) (λ e. omega arith)))
      (ap (marks 32) first ∙ marks-back row long)

  unlisted-slot : (words : List ℕ) (at : ℕ) → at + 34 ≤ length words → slot_at (unlisted number words at) at ≡ unmarked number (slot_at words at)
  unfolding unlisted unmarked either slot_at slot_of unless_unused
  unlisted-slot words at room = by_count (count row)
    where
      row : List Bool
      row = set (marks 32 (get_or words at 0)) number false

      by_count : (k : ℕ) → slot_at (either (eqb k 0) (zeros words at 34) (set words at (row_word (set (marks 32 (get_or words at 0)) number false)))) at
          ≡ unless_unused k (slot_of (slot_at words at).form (set (marks 32 (get_or words at 0)) number false))
      by_count zero = zeros-slot words at room
      by_count (suc k) = rw (eqb-suc-zero k)
          (row-slot words at (set (marks 32 (get_or words at 0)) number false) room (set_long (get_or words at 0) number false))

  pub all-unlisted-length : (words : List ℕ) (i k : ℕ) → length (all_unlisted number words i k) ≡ length words
  unfolding all_unlisted
  all-unlisted-length words i zero = refl
  all-unlisted-length words i (suc k) = all-unlisted-length (unlisted number words (slot_place i)) (suc i) k ∙ unlisted-length words (slot_place i)

  all-unlisted-before : (words : List ℕ) (i k j : ℕ) → j < slot_place i → get_or (all_unlisted number words i k) j 0 ≡ get_or words j 0
  unfolding all_unlisted
  all-unlisted-before words i zero j h = refl
  all-unlisted-before words i (suc k) j h =
      all-unlisted-before (unlisted number words (slot_place i)) (suc i) k j (omega arith) ∙ unlisted-other words (slot_place i) j (λ d l e. omega arith)

  all-unlisted-slots : (words : List ℕ) (i k : ℕ) → slot_place (i + k) ≤ length words
      → slots_from (all_unlisted number words i k) i k ≡ map (unmarked number) (slots_from words i k)
  unfolding all_unlisted slots_from
  all-unlisted-slots words i zero room = refl
  all-unlisted-slots words i (suc k) room =
      let one : List ℕ = unlisted number words (slot_place i) in
      let all : List ℕ = all_unlisted number one (suc i) k in
      ap₂ (λ (s : Slot) (l : List Slot). s ∷ l)
      (slot_kept one all (slot_place i) (λ d h. all-unlisted-before one (suc i) k (slot_place i + d) (omega arith)) ∙ unlisted-slot words (slot_place i) (omega arith))
      (all-unlisted-slots one (suc i) k (omega (arith, unlisted-length words (slot_place i)))
      ∙ ap (map (unmarked number)) (slots_kept words one (suc i) k
      (λ j h m. slot_kept words one (slot_place j) (λ d l. unlisted-other words (slot_place i) (slot_place j + d) (λ e n f. omega arith)))))

-- The words after a withdrawal.
pub withdrawn-pool : (number : ℕ) (words : List ℕ) → 4354 ≤ length words
    → pool_of (withdrawn_words number words)
    ≡ record {
      variables = unless_none (count (set (pool_of words).present number false)) (pool_of words).variables;
      present = set (pool_of words).present number false;
      slots = map (unmarked number) (pool_of words).slots;
    }
unfolding pool_of withdrawn_words
withdrawn-pool number words room =
    let left : List Bool = set (marks 32 (get_or words 1 0)) number false in
    let all : List ℕ = all_unlisted number words 0 128 in
    let after : List ℕ = set all 1 (row_word left) in
    let n : ℕ = unless_none (count left) (get_or words 0 0) in
    let long : length all ≡ length words = all-unlisted-length number words 0 128 in
    let long_after : length after ≡ length words = length-set all 1 (row_word left) ∙ long in
    same-pool (get_or-set_same after 0 n 0 (omega arith))
    (ap (marks 32) (get_or-set_other after 0 1 n 0 (λ e. omega arith) ∙ get_or-set_same all 1 (row_word left) 0 (omega arith))
    ∙ marks-back left (set_long (get_or words 1 0) number false))
    (first-slots after 0 n (omega arith) ∙ first-slots all 1 (row_word left) (omega arith) ∙ all-unlisted-slots number words 0 128 room)
