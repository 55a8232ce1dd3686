-- Sequences of calls on lent words, by the contract of `add` and `withdraw` alone: zeros stand for the empty pool, and after any calls from there the words
-- stand for a pool that holds the release, and each number that was given back is the release's own refusal.
use Rattle.std.specs.Prelude.{◌≡◌, refl, Bool, true, false, List, [], ◌∷◌, ℕ, zero, suc, ◌+◌, ◌≤◌, length, get_or, set, replicate}
use Rattle.std.proofs.Common.{sym, ap, ap₂, ◌∙◌, subst, arith, le-leb, length-set}
use Rattle.std.proofs.lemmas.List.{length-replicate}
use Rattle.rules.specs.Block.{Block, Reading, refused, read, read_block}
use Rattle.rules.specs.Pool.{count, Slot, slot_of, Pool, cleared, empty_pool, Outcome, unless_refused, unless_none, forms_listed, add, withdraw, empty_release}
use Rattle.rules.specs.Pool.{Call, addition, withdrawal, called, release_called, after_all, refusals}
use Rattle.pool_laws.specs.Holds.{Holds}
use Rattle.pool_laws.specs.Calls.{holds-empty, sequence-follows}
use Rattle.pool.specs.Marks.{marks, row_word}
use Rattle.pool.specs.Words.{terms_in, slot_at, slots_from, slot_place, pool_of, all_listed, added_words, all_unlisted, withdrawn_words}
use Rattle.pool.specs.Calls.{all-listed-length, all-unlisted-length}
use Rattle.pool.specs.Entry.{words_after, Gives, entered, added_read}

-- ---- Zeros.

no_word : (n k : ℕ) → get_or (replicate {A = ℕ} n 0) k 0 ≡ 0
no_word zero k = refl
no_word (suc n) zero = refl
no_word (suc n) (suc k) = no_word n k

slot-cleared : (n at : ℕ) → slot_at (replicate n 0) at ≡ cleared
unfolding slot_at terms_in marks slot_of count cleared
slot-cleared n at = rw (no_word n at, no_word n (at + 1)) refl

slots-cleared : (n i k : ℕ) → slots_from (replicate n 0) i k ≡ replicate k cleared
unfolding slots_from
slots-cleared n i zero = refl
slots-cleared n i (suc k) = ap₂ (λ (s : Slot) (l : List Slot). s ∷ l) (slot-cleared n (slot_place i)) (slots-cleared n (suc i) k)

-- Zeros, as many as there may be, stand for the empty pool.
pub zeros-empty : (n : ℕ) → pool_of (replicate n 0) ≡ empty_pool
unfolding pool_of empty_pool marks
zeros-empty n = rw (no_word n 0, no_word n 1, slots-cleared n 0 128) refl

-- ---- One call.

-- The contract of the function that a call names.
unfoldable pub CallGives : Call → List ℕ → List ℕ → ℕ → Type 0
CallGives (addition number bytes) words after refusal =
    Gives words after refusal (entered words (add number bytes (pool_of words))) (added_read number (read_block bytes) words)
CallGives (withdrawal number) words after refusal = Gives words after refusal (entered words (withdraw number (pool_of words))) (withdrawn_words number words)

-- What it comes to: the book's refusal and pool, and as many words as before.
record Comes (call : Call) (words after : List ℕ) (refusal : ℕ) : Type 0 where
  refuses : refusal ≡ (called call (pool_of words)).refusal
  holds : pool_of after ≡ (called call (pool_of words)).result
  long : length after ≡ length words

two-stores : (l words : List ℕ) (i x j y : ℕ) → length l ≡ length words → length (set (set l i x) j y) ≡ length words
two-stores l words i x j y e = length-set (set l i x) j y ∙ length-set l i x ∙ e

read_length : (number : ℕ) (reading : Reading Block) (words : List ℕ) → length (added_read number reading words) ≡ length words
unfolding added_read added_words
read_length number (refused refusal) words = refl
read_length number (read block rest) words =
    two-stores (all_listed number words (forms_listed block)) words 0 block.variables 1 (row_word (set (marks 32 (get_or words 1 0)) number true))
    (all-listed-length number words (forms_listed block))

withdrawn-length : (number : ℕ) (words : List ℕ) → length (withdrawn_words number words) ≡ length words
unfolding withdrawn_words
withdrawn-length number words =
    let left : List Bool = set (marks 32 (get_or words 1 0)) number false in
    two-stores (all_unlisted number words 0 128) words 1 (row_word left) 0 (unless_none (count left) (get_or words 0 0)) (all-unlisted-length number words 0 128)

after-length : (refusal : ℕ) (words new : List ℕ) → length new ≡ length words → length (words_after refusal words new) ≡ length words
unfolding words_after
after-length zero words new e = e
after-length (suc k) words new e = refl

entered-long : (words : List ℕ) (outcome : Outcome Pool) → 4354 ≤ length words → entered words outcome ≡ outcome
unfolding entered unless_refused
entered-long words outcome room = rw (le-leb 4354 (length words) room) refl

from-contract : (words after new : List ℕ) (refusal : ℕ) (outcome : Outcome Pool) → 4354 ≤ length words → length new ≡ length words
    → Gives words after refusal (entered words outcome) new
    → (refusal ≡ outcome.refusal) × (pool_of after ≡ outcome.result) × (length after ≡ length words)
from-contract words after new refusal outcome room e g =
    let same = entered-long words outcome room in (
      g.refuses ∙ ap (λ (o : Outcome Pool). o.refusal) same,
      g.holds ∙ ap (λ (o : Outcome Pool). o.result) same,
      ap length g.is ∙ after-length refusal words new e,
    )

call-comes : (call : Call) (words after : List ℕ) (refusal : ℕ) → 4354 ≤ length words → CallGives call words after refusal → Comes call words after refusal
unfolding CallGives called
call-comes (addition number bytes) words after refusal room g =
    let all = from-contract words after _ refusal (add number bytes (pool_of words)) room (read_length number (read_block bytes) words) g in
    record { refuses = all.0; holds = all.1; long = all.2 }
call-comes (withdrawal number) words after refusal room g =
    let all = from-contract words after _ refusal (withdraw number (pool_of words)) room (withdrawn-length number words) g in
    record { refuses = all.0; holds = all.1; long = all.2 }

-- ---- Any sequence.

-- Calls made one after the other on the same words, the words afterwards, and the numbers that were given back: nothing is known of the calls but their
-- contract.
pub data Made : List Call → List ℕ → List ℕ → List ℕ → Type 0 where
  none_made : {words : List ℕ} → Made [] words words []
  made : {call : Call} {calls : List Call} {words after others : List ℕ} (next : List ℕ) (refusal : ℕ)
      → CallGives call words next refusal → Made calls next after others → Made (call ∷ calls) words after (refusal ∷ others)

-- They are the book's calls on the pool that the words stand for.
pub made-called : (calls : List Call) {words after numbers : List ℕ} → 4354 ≤ length words → Made calls words after numbers
    → (pool_of after ≡ after_all called calls (pool_of words)) × (numbers ≡ refusals called calls (pool_of words))
unfolding after_all refusals
made-called [] room none_made = (refl, refl)
made-called (call ∷ calls) {words} room (made next refusal g others) =
    let one = call-comes call words next refusal room g in
    let rest = made-called calls (omega (arith, one.long)) others in (
      rest.0 ∙ ap (after_all called calls) one.holds,
      ap₂ (λ (k : ℕ) (ks : List ℕ). k ∷ ks) one.refuses (rest.1 ∙ ap (refusals called calls) one.holds),
    )

-- "after any sequence of additions and withdrawals (each accepted or refused)", on words that were zeros: they stand for a pool that holds the release, and
-- each call gave back the release's own refusal.
pub words-hold : (calls : List Call) {after numbers : List ℕ} → Made calls (replicate 4354 0) after numbers
    → Holds (after_all release_called calls empty_release) (pool_of after) × (numbers ≡ refusals release_called calls empty_release)
words-hold calls run =
    let room : 4354 ≤ length (replicate {A = ℕ} 4354 0) = omega (arith, length-replicate {A = ℕ} 4354 0) in
    let all = made-called calls room run in
    let follows = sequence-follows calls holds-empty in (
      subst (Holds (after_all release_called calls empty_release)) (sym (all.0 ∙ ap (after_all called calls) (zeros-empty 4354))) follows.0,
      all.1 ∙ ap (refusals called calls) (zeros-empty 4354) ∙ follows.1,
    )
