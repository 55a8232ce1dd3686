-- Copies: a run of places, the forms of a list of slots, the tokens of a tape. The last two are walked one place at a time; what is left, copied
-- from the arrays as they stand, stays what was asked.
use mathlib.Core.Path.{◌≡◌, refl, sym, ap, ◌∙◌}
use mathlib.Core.List.{List, [], ◌∷◌, ◌++◌, map, append_assoc}
use Prim.Native.Nat.{ℕ, zero, suc, ◌+◌, ◌-◌, ◌*◌, ◌<◌, ◌≤◌}
use native.Mathlib.Numerals.{add-one}
use native.Mathlib.Omega.{arith}
use lib.IntN.{ℤ, pos}
use lib.ListN.{length, get_or, set, take, drop, length-set}
use borrow.Rule.Slice.PartMut.{put_mid}
use lib.Seq.{sets, sets-eq, slice, drop-cons, length-sets}
use Rattle.std.proofs.lemmas.List.Edits.{paste_all}
use Rattle.std.proofs.lemmas.Slice.{put_mid-paste}
use Rattle.rules.specs.Polynomial.{Term, Polynomial}
use Rattle.terms.specs.View.{numbers_from, numbers-cons, numbers-nil, terms_from}
use Rattle.table.specs.Table.{Table, form_at}
use Rattle.block.specs.Held.{slots}
use Rattle.used.specs.Tape.{forms_in}
use Rattle.used.specs.FirstUse.{Copied, renumbered}
use Rattle.used.proofs.Slots.{tape-next, tape-end}

-- ---- A run of places.

-- A part of a list that is written anew holds the new values one after the other.
pub run-stored : {A : Type 0} (target run : List A) (to k : ℕ) → to + k ≤ length target → length run ≡ k → put_mid to k target run ≡ sets target to run
run-stored target run to k h e =
    let whole : sets target to run ≡ (take to target ++ run) ++ drop (to + k) target = rw (← e) (sets-eq run target to (omega arith)) in
    put_mid-paste to k target run run k refl refl (sym e) ∙ paste_all target to run k (sym e) ∙ sym (whole ∙ append_assoc (take to target) run (drop (to + k) target))

-- ---- The forms of a list of slots.

-- The coefficients, or the monomials, of a run of terms are a run of their own array.
coefficients-run : (cs : List ℤ) (ms : List ℕ) (i k : ℕ) → i + k ≤ length cs → map (λ (t : Term). t.coefficient) (terms_from cs ms i k) ≡ take k (drop i cs)
unfolding terms_from
coefficients-run cs ms i zero h = refl
coefficients-run cs ms i (suc k) h =
    let there : i < length cs = omega arith in
    rw (drop-cons cs i (pos 0) there, coefficients-run cs ms (suc i) k (omega arith))

monomials-run : (cs : List ℤ) (ms : List ℕ) (i k : ℕ) → i + k ≤ length ms → map (λ (t : Term). t.monomial) (terms_from cs ms i k) ≡ take k (drop i ms)
unfolding terms_from
monomials-run cs ms i zero h = refl
monomials-run cs ms i (suc k) h =
    let there : i < length ms = omega arith in
    rw (drop-cons ms i 0 there, monomials-run cs ms (suc i) k (omega arith))

pub numbers-run : (xs : List ℕ) (i k : ℕ) → i + k ≤ length xs → numbers_from xs i k ≡ take k (drop i xs)
unfolding numbers_from
numbers-run xs i zero h = refl
numbers-run xs i (suc k) h =
    let there : i < length xs = omega arith in
    rw (drop-cons xs i 0 there, numbers-run xs (suc i) k (omega arith))

length_run : (cs : List ℤ) (ms : List ℕ) (i k : ℕ) → length (terms_from cs ms i k) ≡ k
unfolding terms_from
length_run cs ms i zero = refl
length_run cs ms i (suc k) = ap suc (length_run cs ms (suc i) k)

-- So those of the form in a slot are.
module _ (table : Table) (slot : ℕ) where
  coefficients-form : 16 * slot + get_or table.terms slot 0 ≤ length table.coefficient
      → map (λ (t : Term). t.coefficient) (form_at table slot) ≡ take (get_or table.terms slot 0) (drop (16 * slot) table.coefficient)
  unfolding form_at
  coefficients-form h = coefficients-run table.coefficient table.monomial (16 * slot) (get_or table.terms slot 0) h

  monomials-form : 16 * slot + get_or table.terms slot 0 ≤ length table.monomial
      → map (λ (t : Term). t.monomial) (form_at table slot) ≡ take (get_or table.terms slot 0) (drop (16 * slot) table.monomial)
  unfolding form_at
  monomials-form h = monomials-run table.coefficient table.monomial (16 * slot) (get_or table.terms slot 0) h

  length-form : length (form_at table slot) ≡ get_or table.terms slot 0
  unfolding form_at
  length-form = length_run table.coefficient table.monomial (16 * slot) (get_or table.terms slot 0)

-- The forms of so many slots, from number i on.
abbrev pub forms_from : Table → List ℕ → ℕ → ℕ → List Polynomial
forms_from table order used i = map (form_at table) (numbers_from order i (used - i))

module _ (table : Table) (order : List ℕ) (used : ℕ) where
  forms-next : (i : ℕ) → i < used → forms_from table order used i ≡ form_at table (get_or order i 0) ∷ forms_from table order used (i + 1)
  forms-next i h = rw (numbers-cons order i used h)

  slots_next : {A : Type 0} (part : Term → A) (array : List A) (i : ℕ) → i < used
      → slots part i (forms_from table order used i) array
      ≡ slots part (i + 1) (forms_from table order used (i + 1)) (sets array (16 * i) (map part (form_at table (get_or order i 0))))
  unfolding slots
  slots_next part array i h = rw (forms-next i h, add-one i)

  counts-next : (array : List ℕ) (i : ℕ) → i < used
      → sets array i (map length (forms_from table order used i))
      ≡ sets (set array i (length (form_at table (get_or order i 0)))) (i + 1) (map length (forms_from table order used (i + 1)))
  counts-next array i h = rw (forms-next i h, add-one i)

-- What is left to copy at number i, copied, is what was to be copied.
pub record Copying (table : Table) (order : List ℕ) (used : ℕ) (coefficient coefficient' : List ℤ) (monomial monomial' terms terms' : List ℕ) (i : ℕ) : Type 0 where
  pub coefficients : slots (λ t. t.coefficient) i (forms_from table order used i) coefficient' ≡ slots (λ t. t.coefficient) 0 (forms_in table order used) coefficient
  pub monomials : slots (λ t. t.monomial) i (forms_from table order used i) monomial' ≡ slots (λ t. t.monomial) 0 (forms_in table order used) monomial
  pub counts : sets terms' i (map length (forms_from table order used i)) ≡ sets terms 0 (map length (forms_in table order used))
  pub coefficients_size : length coefficient' ≡ length coefficient
  pub monomials_size : length monomial' ≡ length monomial
  pub counts_size : length terms' ≡ length terms

pub copying-starts : (table : Table) (order : List ℕ) (used : ℕ) (coefficient : List ℤ) (monomial terms : List ℕ)
    → Copying table order used coefficient coefficient monomial monomial terms terms 0
copying-starts table order used coefficient monomial terms =
    let e : used - 0 ≡ used = omega arith in
    record { coefficients = rw e; monomials = rw e; counts = rw e; coefficients_size = refl; monomials_size = refl; counts_size = refl }

module _ {table : Table} {order : List ℕ} {used : ℕ} {coefficient coefficient' : List ℤ} {monomial monomial' terms terms' : List ℕ} {i : ℕ}
    (sofar : Copying table order used coefficient coefficient' monomial monomial' terms terms' i) where
  -- The next form is copied.
  pub copying-next : {coefficient'' : List ℤ} {monomial'' : List ℕ} → i < used → let slot = get_or order i 0 in let count = get_or table.terms slot 0 in
      16 * slot + count ≤ length table.coefficient → 16 * slot + count ≤ length table.monomial
      → coefficient'' ≡ sets coefficient' (16 * i) (take count (drop (16 * slot) table.coefficient))
      → monomial'' ≡ sets monomial' (16 * i) (take count (drop (16 * slot) table.monomial))
      → Copying table order used coefficient coefficient'' monomial monomial'' terms (set terms' i count) (i + 1)
  copying-next h l m e f =
      let slot = get_or order i 0 in
      let count = get_or table.terms slot 0 in
      record {
        coefficients = rw (e, ← (coefficients-form table slot l)) (sym (slots_next table order used (λ t. t.coefficient) coefficient' i h) ∙ sofar.coefficients);
        monomials = rw (f, ← (monomials-form table slot m)) (sym (slots_next table order used (λ t. t.monomial) monomial' i h) ∙ sofar.monomials);
        counts = rw (← (length-form table slot)) (sym (counts-next table order used terms' i h) ∙ sofar.counts);
        coefficients_size = rw (e, length-sets coefficient' (16 * i) (take count (drop (16 * slot) table.coefficient))) sofar.coefficients_size;
        monomials_size = rw (f, length-sets monomial' (16 * i) (take count (drop (16 * slot) table.monomial))) sofar.monomials_size;
        counts_size = length-set terms' i count ∙ sofar.counts_size;
      }

  -- All forms are copied.
  pub copied : used ≤ i → Copied (forms_in table order used) coefficient coefficient' monomial monomial' terms terms'
  unfolding slots
  copied h =
      let none : forms_from table order used i ≡ [] = ap (map (form_at table)) (numbers-nil order i used h) in
      record {
        coefficients = sym (ap (λ (ps : List Polynomial). slots (λ t. t.coefficient) i ps coefficient') none) ∙ sofar.coefficients;
        monomials = sym (ap (λ (ps : List Polynomial). slots (λ t. t.monomial) i ps monomial') none) ∙ sofar.monomials;
        counts = sym (ap (λ (ps : List Polynomial). sets terms' i (map length ps)) none) ∙ sofar.counts;
      }

-- ---- The tokens of a tape.

-- What is left of a tape at place i, renumbered and stored, is what was to be stored.
pub record Renumbering (number token : List ℕ) (count : ℕ) (target target' : List ℕ) (i : ℕ) : Type 0 where
  pub within : i ≤ count
  pub size : length target' ≡ length target
  pub left : sets target' i (map (renumbered number) (slice i count token)) ≡ sets target 0 (map (renumbered number) (take count token))

pub renumbering-starts : (number token : List ℕ) (count : ℕ) (target : List ℕ) → Renumbering number token count target target 0
renumbering-starts number token count target = record { within = omega arith; size = refl; left = refl }

module _ {number token : List ℕ} {count : ℕ} {target target' : List ℕ} {i : ℕ} (sofar : Renumbering number token count target target' i) where
  -- The next token is stored.
  pub renumbering-next : {x : ℕ} → x ≡ renumbered number (get_or token i 0) → i < count → count ≤ length token
      → Renumbering number token count target (set target' i x) (i + 1)
  renumbering-next {x} e h long =
      let step : sets target' i (map (renumbered number) (slice i count token))
      ≡ sets (set target' i x) (i + 1) (map (renumbered number) (slice (i + 1) count token)) =
      rw (e, tape-next token count i h long, add-one i) in
      record { within = omega arith; size = length-set target' i x ∙ sofar.size; left = sym step ∙ sofar.left }

  -- All tokens are stored.
  pub renumbering-ends : count ≤ i → target' ≡ sets target 0 (map (renumbered number) (take count token))
  renumbering-ends h =
      let step : sets target' i (map (renumbered number) (slice i count token)) ≡ target' = rw (tape-end token count i sofar.within h) in
      sym step ∙ sofar.left
