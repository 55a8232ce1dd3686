-- 02, #113, a pool of polynomials for a release: the forms that a block lists, the pool that stores each form once with the blocks that list it, and
-- the release that the pool stands for, numbers with their blocks. A block is added to either, and withdrawn, with the same refusals.
use Rattle.std.specs.Prelude.{Bool, true, false, not, ◌&&◌, ◌||◌, List, [], ◌∷◌, map, ℕ, zero, suc, leb, ltb, eqb, length, get_or, set, replicate}
use Rattle.std.proofs.Math.Option.{Option, none, some}
use Rattle.rules.specs.Polynomial.{Polynomial, same}
use Rattle.rules.specs.Block.{Block, Reading, refused, read, read_block}
use Rattle.rules.specs.Answer.{knows, added_unless, without_constants}
use Rattle.rules.specs.Polynomial.{normal_form}

-- ---- The forms that a block lists.

-- Some forms and behind them others, each once.
unfoldable pub together : List Polynomial → List Polynomial → List Polynomial
together forms [] = forms
together forms (p ∷ ps) = together (added_unless (knows forms p) p forms) ps

-- "A block lists the different normal forms of its non-constant table polynomials, used in the tree or not; repeats, multiples and negations count
-- once."
unfoldable pub forms_listed : Block → List Polynomial
forms_listed block = together [] (map normal_form (without_constants block.table))

-- ---- What a call gives back: 0 or the number of the refusal, and the pool or the release afterwards.
pub record Outcome (A : Type 0) : Type 0 where
  pub refusal : ℕ
  pub result : A

-- "A refused call gives back the pool as it was."
unfoldable pub unless_refused : {A : Type 0} → Bool → ℕ → A → Outcome A → Outcome A
unless_refused true number before outcome = outcome
unless_refused false number before outcome = record { refusal = number; result = before }

unfoldable pub either : {A : Type 0} → Bool → A → A → A
either true a b = a
either false a b = b

-- How many are true.
unfoldable pub count : List Bool → ℕ
count [] = 0
count (true ∷ bs) = suc (count bs)
count (false ∷ bs) = count bs

-- ---- The pool.

-- A slot: its form, the number of blocks that list it, and for each of the 32 numbers whether the block of that number does.
pub record Slot : Type 0 where
  pub form : Polynomial
  pub uses : ℕ
  pub listed_by : List Bool

-- The variables of the blocks present (0 if there is none), for each number whether a block is present, and the 128 slots.
pub record Pool : Type 0 where
  pub variables : ℕ
  pub present : List Bool
  pub slots : List Slot

-- "a freed slot is cleared"
unfoldable pub cleared : Slot
cleared = record { form = []; uses = 0; listed_by = replicate 32 false }

unfoldable pub empty_pool : Pool
empty_pool = record { variables = 0; present = replicate 32 false; slots = replicate 128 cleared }

unfoldable pub is_free : Slot → Bool
is_free slot = eqb slot.uses 0

unfoldable pub stores : Polynomial → Slot → Bool
stores p slot = not (is_free slot) && same p slot.form

-- The forms in use, in slot order.
unfoldable pub forms_in_use : List Slot → List Polynomial
forms_in_use [] = []
forms_in_use (slot ∷ slots) = let others = forms_in_use slots in either (is_free slot) others (slot.form ∷ others)

-- A form in its slot, with a row of marks; the uses are counted from the row.
unfoldable pub slot_of : Polynomial → List Bool → Slot
slot_of p row = record { form = p; uses = count row; listed_by = row }

-- The first slot that passes a test is changed.
unfoldable pub change_first : (Slot → Bool) → (Slot → Slot) → List Slot → List Slot
change_first test change [] = []
change_first test change (slot ∷ slots) = let others = change_first test change slots in either (test slot) (change slot ∷ slots) (slot ∷ others)

unfoldable pub marked : ℕ → Polynomial → Slot → Slot
marked number p slot = slot_of p (set slot.listed_by number true)

-- A form that is in use is marked in its slot; "new forms go .. to the first free slot".
unfoldable pub list_form : ℕ → List Slot → Polynomial → List Slot
list_form number slots p = change_first (either (knows (forms_in_use slots) p) (stores p) is_free) (marked number p) slots

-- "in table order"
unfoldable pub list_forms : ℕ → List Slot → List Polynomial → List Slot
list_forms number slots [] = slots
list_forms number slots (p ∷ ps) = list_forms number (list_form number slots p) ps

-- "`add(number, block)`: the reader's refusals; 26 if the number is above 31 or present; 27 if some block is present and its n differs; 28 exactly if
-- the forms in use together with the listed ones are more than 128."
unfoldable pub add_block : ℕ → Block → Pool → Outcome Pool
add_block number block pool =
    let forms = forms_listed block in
    unless_refused (ltb number 32 && not (get_or pool.present number false)) 26 pool
    (unless_refused (eqb (count pool.present) 0 || eqb block.variables pool.variables) 27 pool
    (unless_refused (leb (length (together (forms_in_use pool.slots) forms)) 128) 28 pool
    (record {
      refusal = 0;
      result = record {
        variables = block.variables;
        present = set pool.present number true;
        slots = list_forms number pool.slots forms;
      };
    })))

unfoldable pub add_reading : ℕ → Reading Block → Pool → Outcome Pool
add_reading number (refused refusal) pool = record { refusal = refusal; result = pool }
add_reading number (read block stream) pool = add_block number block pool

unfoldable pub add : ℕ → List ℕ → Pool → Outcome Pool
add number bytes pool = add_reading number (read_block bytes) pool

-- A slot that no other block lists is cleared, any other keeps the marks of the others.
unfoldable pub unless_unused : ℕ → Slot → Slot
unless_unused zero slot = cleared
unless_unused (suc k) slot = slot

unfoldable pub unmarked : ℕ → Slot → Slot
unmarked number slot = let row = set slot.listed_by number false in unless_unused (count row) (slot_of slot.form row)

-- "With no block present any n is accepted": then none is kept.
unfoldable pub unless_none : ℕ → ℕ → ℕ
unless_none zero n = 0
unless_none (suc k) n = n

-- "`withdraw(number)`: 26 if the number is above 31 or absent."
unfoldable pub withdraw : ℕ → Pool → Outcome Pool
withdraw number pool =
    let left = set pool.present number false in
    unless_refused (ltb number 32 && get_or pool.present number false) 26 pool
    (record {
      refusal = 0;
      result = record {
        variables = unless_none (count left) pool.variables;
        present = left;
        slots = map (unmarked number) pool.slots;
      };
    })

-- ---- The release: at each of the 32 numbers the block that is present.
abbrev pub Release : Type 0
Release = List (Option Block)

unfoldable pub empty_release : Release
empty_release = replicate 32 none

unfoldable pub is_present : Option Block → Bool
is_present none = false
is_present (some block) = true

-- "27 if some block is present and its n differs"
unfoldable pub allows : ℕ → Option Block → Bool
allows n none = true
allows n (some block) = eqb n block.variables

unfoldable pub allows_all : ℕ → Release → Bool
allows_all n [] = true
allows_all n (one ∷ others) = allows n one && allows_all n others

-- The different forms of the blocks present.
unfoldable pub listed_of : Option Block → List Polynomial
listed_of none = []
listed_of (some block) = forms_listed block

unfoldable pub release_forms : Release → List Polynomial
release_forms [] = []
release_forms (one ∷ others) = together (listed_of one) (release_forms others)

-- Whether a block lists a form; "the number of blocks that list it".
unfoldable pub lists : Polynomial → Option Block → Bool
lists p one = knows (listed_of one) p

unfoldable pub listings : Polynomial → Release → ℕ
listings p release = count (map (lists p) release)

unfoldable pub release_block : ℕ → Block → Release → Outcome Release
release_block number block release =
    unless_refused (ltb number 32 && not (is_present (get_or release number none))) 26 release
    (unless_refused (allows_all block.variables release) 27 release
    (unless_refused (leb (length (together (release_forms release) (forms_listed block))) 128) 28 release
    (record { refusal = 0; result = set release number (some block) })))

unfoldable pub release_reading : ℕ → Reading Block → Release → Outcome Release
release_reading number (refused refusal) release = record { refusal = refusal; result = release }
release_reading number (read block stream) release = release_block number block release

unfoldable pub withdrawn : ℕ → Release → Outcome Release
withdrawn number release =
    unless_refused (ltb number 32 && is_present (get_or release number none)) 26 release
    (record { refusal = 0; result = set release number none })

-- ---- "any sequence of additions and withdrawals (each accepted or refused)"
pub data Call : Type 0 where
  addition : ℕ → List ℕ → Call
  withdrawal : ℕ → Call

unfoldable pub called : Call → Pool → Outcome Pool
called (addition number bytes) pool = add number bytes pool
called (withdrawal number) pool = withdraw number pool

unfoldable pub release_called : Call → Release → Outcome Release
release_called (addition number bytes) release = release_reading number (read_block bytes) release
release_called (withdrawal number) release = withdrawn number release

-- What is there after all calls, and the refusals on the way (0: accepted).
unfoldable pub after_all : {A : Type 0} → (Call → A → Outcome A) → List Call → A → A
after_all step [] a = a
after_all step (call ∷ calls) a = after_all step calls (step call a).result

unfoldable pub refusals : {A : Type 0} → (Call → A → Outcome A) → List Call → A → List ℕ
refusals step [] a = []
refusals step (call ∷ calls) a = let outcome = step call a in outcome.refusal ∷ refusals step calls outcome.result

-- To unfold this is to unfold every definition of this file.
unfoldable pub open_pool : Unit {0}
unfolding normal_form together forms_listed unless_refused either count cleared empty_pool is_free stores forms_in_use slot_of change_first marked list_form list_forms add_block add_reading add unless_unused unmarked unless_none withdraw empty_release is_present allows allows_all listed_of release_forms lists listings release_block release_reading withdrawn called release_called after_all refusals
open_pool = tt
