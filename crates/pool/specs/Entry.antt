-- What a call on lent words gives: the refusal's number, the words afterwards, and the pool that they stand for. A refused call changes no word.
use Rattle.std.specs.Prelude.{◌≡◌, refl, Bool, true, false, not, ◌&&◌, ◌||◌, List, ℕ, zero, suc, ◌+◌, ◌<◌, ◌≤◌, leb, ltb, eqb, length, get_or, set, ℤ}
use Rattle.std.proofs.Common.{sym, ap, ap₂, ◌∙◌, subst, arith, le-leb, ltb-true}
use Rattle.std.proofs.Math.Option.{some}
use Rattle.std.proofs.lemmas.Bool.{lt-leb}
use Rattle.rules.specs.Polynomial.{Polynomial}
use Rattle.rules.specs.Block.{Block, Stream, Reading, refused, read, read_block}
use Rattle.sign_laws.specs.Booleans.{and_first}
use Rattle.sign_laws.specs.Lists.{Every}
use Rattle.rules.specs.Pool.{together, forms_listed, Outcome, unless_refused, either, count, Pool, forms_in_use, add_block, add_reading, add}
use Rattle.rules.specs.Pool.{unless_none, withdraw, listed_of}
use Rattle.pool_laws.specs.Holds.{listed-once}
use Rattle.pool_laws.specs.Places.{used_slots, used-length, new_forms, together-length}
use Rattle.pool.specs.Marks.{marks, row_word, none_left}
use Rattle.pool.specs.Words.{slots_of, pool_of, all_listed, added_words, all_unlisted, withdrawn_words}
use Rattle.pool.specs.Calls.{Fits, added-pool, withdrawn-pool}
use Rattle.pool.specs.Reading.{forms_in, forms-fit, HoldsForms}
use Rattle.terms.specs.View.{numbers_from}

-- "A refused call gives back the pool as it was."
unfoldable pub words_after : ℕ → List ℕ → List ℕ → List ℕ
words_after zero words new = new
words_after (suc k) words new = words

pub record Gives (words after : List ℕ) (refusal : ℕ) (outcome : Outcome Pool) (new : List ℕ) : Type 0 where
  pub refuses : refusal ≡ outcome.refusal
  pub holds : pool_of after ≡ outcome.result
  pub is : after ≡ words_after refusal words new

-- 1 if fewer words are lent than a pool has, before all other refusals.
unfoldable pub entered : List ℕ → Outcome Pool → Outcome Pool
entered words outcome = unless_refused (leb 4354 (length words)) 1 (pool_of words) outcome

-- The words after an addition of what was read.
unfoldable pub added_read : ℕ → Reading Block → List ℕ → List ℕ
added_read number (refused refusal) words = words
added_read number (read block rest) words = added_words number block.variables (forms_listed block) words

pub gives-refused : (words new : List ℕ) (k : ℕ) (outcome : Outcome Pool) → outcome ≡ record { refusal = suc k; result = pool_of words }
    → Gives words words (suc k) outcome new
unfolding words_after
gives-refused words new k outcome e = record {
  refuses = sym (ap (λ (o : Outcome Pool). o.refusal) e);
  holds = sym (ap (λ (o : Outcome Pool). o.result) e);
  is = refl;
}

pub gives-done : (words new : List ℕ) (outcome : Outcome Pool) (pool : Pool) → outcome ≡ record { refusal = 0; result = pool } → pool_of new ≡ pool
    → Gives words new 0 outcome new
unfolding words_after
gives-done words new outcome pool e f = record {
  refuses = sym (ap (λ (o : Outcome Pool). o.refusal) e);
  holds = f ∙ sym (ap (λ (o : Outcome Pool). o.result) e);
  is = refl;
}

-- ---- An addition.

module _ (number : ℕ) (block : Block) (words : List ℕ) where
  abbrev pub is_open : Bool
  is_open = ltb number 32 && not (get_or (marks 32 (get_or words 1 0)) number false)

  abbrev pub allowed : Bool
  allowed = eqb (count (marks 32 (get_or words 1 0))) 0 || eqb block.variables (get_or words 0 0)

  abbrev pub has_room : Bool
  has_room = leb (length (together (forms_in_use (slots_of words)) (forms_listed block))) 128

module _ (number : ℕ) (block : Block) (words : List ℕ) where
  pub add-closed : is_open number block words ≡ false → Gives words words 26 (add_block number block (pool_of words)) (added_words number block.variables (forms_listed block) words)
  unfolding add_block unless_refused pool_of
  add-closed a = gives-refused words (added_words number block.variables (forms_listed block) words) 25 (add_block number block (pool_of words)) (rw a)

  pub add-other : is_open number block words ≡ true → allowed number block words ≡ false
      → Gives words words 27 (add_block number block (pool_of words)) (added_words number block.variables (forms_listed block) words)
  unfolding add_block unless_refused pool_of
  add-other a b = gives-refused words (added_words number block.variables (forms_listed block) words) 26 (add_block number block (pool_of words)) (rw (a, b))

  pub add-full : is_open number block words ≡ true → allowed number block words ≡ true → has_room number block words ≡ false
      → Gives words words 28 (add_block number block (pool_of words)) (added_words number block.variables (forms_listed block) words)
  unfolding add_block unless_refused pool_of
  add-full a b d = gives-refused words (added_words number block.variables (forms_listed block) words) 27 (add_block number block (pool_of words)) (rw (a, b, d))

  pub add_done : 4354 ≤ length words → Every Fits (forms_listed block) → is_open number block words ≡ true → allowed number block words ≡ true
      → has_room number block words ≡ true
      → Gives words (added_words number block.variables (forms_listed block) words) 0 (add_block number block (pool_of words))
      (added_words number block.variables (forms_listed block) words)
  unfolding add_block unless_refused pool_of
  add_done room fits a b d =
      gives-done words (added_words number block.variables (forms_listed block) words) (add_block number block (pool_of words)) _ (rw (a, b, d))
      (added-pool number block.variables words room fits)

  -- The forms together, counted.
  pub forms-together : (used fresh : ℕ) → used ≡ used_slots (slots_of words) → fresh ≡ new_forms (forms_in_use (slots_of words)) (forms_listed block)
      → length (together (forms_in_use (slots_of words)) (forms_listed block)) ≡ used + fresh
  unfolding listed_of
  forms-together used fresh e f = omega (arith, together-length (forms_in_use (slots_of words)) (listed-once (some block)), used-length (slots_of words), e, f)

-- What the forms of a block come to.
pub record Filled (words after : List ℕ) (number n : ℕ) (forms : List Polynomial) (refusal : ℕ) : Type 0 where
  pub refuses : refusal ≡ either (leb (used_slots (slots_of words) + new_forms (forms_in_use (slots_of words)) forms) 128) 0 28
  pub is : after ≡ either (leb (used_slots (slots_of words) + new_forms (forms_in_use (slots_of words)) forms) 128) (added_words number n forms words) words

pub filled-full : (words : List ℕ) (number n : ℕ) (forms : List Polynomial) → 128 < used_slots (slots_of words) + new_forms (forms_in_use (slots_of words)) forms
    → Filled words words number n forms 28
unfolding either
filled-full words number n forms h =
    let full = lt-leb (used_slots (slots_of words) + new_forms (forms_in_use (slots_of words)) forms) 128 h in
    record { refuses = rw full; is = rw full }

pub filled-done : (words : List ℕ) (number n : ℕ) (forms : List Polynomial) → used_slots (slots_of words) + new_forms (forms_in_use (slots_of words)) forms ≤ 128
    → Filled words (added_words number n forms words) number n forms 0
unfolding either
filled-done words number n forms h =
    let room = le-leb (used_slots (slots_of words) + new_forms (forms_in_use (slots_of words)) forms) 128 h in
    record { refuses = rw room; is = rw room }

pub gives-filled : (number refusal : ℕ) (block : Block) (words after : List ℕ) → 4354 ≤ length words → Every Fits (forms_listed block)
    → is_open number block words ≡ true → allowed number block words ≡ true → Filled words after number block.variables (forms_listed block) refusal
    → Gives words after refusal (add_block number block (pool_of words)) (added_words number block.variables (forms_listed block) words)
unfolding either
gives-filled number refusal block words after room fits a b filled =
    by-test (leb (used_slots (slots_of words) + new_forms (forms_in_use (slots_of words)) (forms_listed block)) 128)
    (ap (λ (k : ℕ). leb k 128) (forms-together number block words (used_slots (slots_of words)) (new_forms (forms_in_use (slots_of words)) (forms_listed block)) refl refl))
    filled.refuses filled.is
  where
    by-test : (t : Bool) → has_room number block words ≡ t → refusal ≡ either t 0 28
        → after ≡ either t (added_words number block.variables (forms_listed block) words) words
        → Gives words after refusal (add_block number block (pool_of words)) (added_words number block.variables (forms_listed block) words)
    by-test true d e f = rw (e, f) (add_done number block words room fits a b d)
    by-test false d e f = rw (e, f) (add-full number block words a b d)

-- What was read is added: nothing is asked of the tree.
add-alike : (number : ℕ) (block given : Block) (pool : Pool) → block.variables ≡ given.variables → block.table ≡ given.table
    → add_block number block pool ≡ add_block number given pool
unfolding add_block forms_listed
add-alike number block given pool v t = rw (v, t)

listed-alike : (block given : Block) → block.table ≡ given.table → forms_listed block ≡ forms_listed given
unfolding forms_listed
listed-alike block given t = rw t

pub gives-read : (number refusal : ℕ) (words after bytes : List ℕ) (block given : Block) (rest : Stream) → read_block bytes ≡ read given rest
    → block.variables ≡ given.variables → block.table ≡ given.table → 4354 ≤ length words
    → Gives words after refusal (add_block number block (pool_of words)) (added_words number block.variables (forms_listed block) words)
    → Gives words after refusal (entered words (add number bytes (pool_of words))) (added_read number (read_block bytes) words)
unfolding entered unless_refused add add_reading added_read
gives-read number refusal words after bytes block given rest e v t room g =
    let same : add_block number block (pool_of words) ≡ entered words (add number bytes (pool_of words)) =
    add-alike number block given (pool_of words) v t ∙ rw (le-leb 4354 (length words) room, e) in
    let new : added_words number block.variables (forms_listed block) words ≡ added_read number (read_block bytes) words =
    ap₂ (λ (n : ℕ) (l : List Polynomial). added_words number n l words) v (listed-alike block given t) ∙ rw e in
    record {
      refuses = g.refuses ∙ ap (λ (o : Outcome Pool). o.refusal) same;
      holds = g.holds ∙ ap (λ (o : Outcome Pool). o.result) same;
      is = g.is ∙ ap (words_after refusal words) new;
    }

pub gives-unread : (number : ℕ) (words bytes : List ℕ) (k : ℕ) → read_block bytes ≡ refused k → 4354 ≤ length words
    → Gives words words k (entered words (add number bytes (pool_of words))) (added_read number (read_block bytes) words)
unfolding entered unless_refused add add_reading added_read words_after
gives-unread number words bytes k e room =
    let is : entered words (add number bytes (pool_of words)) ≡ record { refusal = k; result = pool_of words } = rw (le-leb 4354 (length words) room, e) in
    record {
      refuses = sym (ap (λ (o : Outcome Pool). o.refusal) is);
      holds = sym (ap (λ (o : Outcome Pool). o.result) is);
      is = by_number k ∙ ap (words_after k words) (sym (ap (λ (r : Reading Block). added_read number r words) e));
    }
  where
    by_number : (k : ℕ) → words ≡ words_after k words words
    by_number zero = refl
    by_number (suc k) = refl

-- Too few words.
pub gives-short : (words new : List ℕ) (outcome : Outcome Pool) → length words < 4354 → Gives words words 1 (entered words outcome) new
unfolding entered unless_refused
gives-short words new outcome h = gives-refused words new 0 _ (rw (lt-leb 4354 (length words) h))

-- ---- A withdrawal.

module _ (number : ℕ) (words : List ℕ) (room : 4354 ≤ length words) where
  pub withdraw-absent : (ltb number 32 && get_or (marks 32 (get_or words 1 0)) number false) ≡ false
      → Gives words words 26 (entered words (withdraw number (pool_of words))) (withdrawn_words number words)
  unfolding entered withdraw unless_refused pool_of
  withdraw-absent a = gives-refused words (withdrawn_words number words) 25 _ (rw (le-leb 4354 (length words) room, a))

  pub withdraw-done : (ltb number 32 && get_or (marks 32 (get_or words 1 0)) number false) ≡ true
      → Gives words (withdrawn_words number words) 0 (entered words (withdraw number (pool_of words))) (withdrawn_words number words)
  unfolding entered withdraw unless_refused pool_of
  withdraw-done a = gives-done words (withdrawn_words number words) _ _ (rw (le-leb 4354 (length words) room, a)) (withdrawn-pool number words room)

-- ---- The words, store by store.

pub added_is : (number n : ℕ) (forms : List Polynomial) (words all : List ℕ) (row : ℕ) → all ≡ all_listed number words forms
    → row ≡ row_word (set (marks 32 (get_or words 1 0)) number true) → set (set all 0 n) 1 row ≡ added_words number n forms words
unfolding added_words
added_is number n forms words all row e f = ap₂ (λ (l : List ℕ) (r : ℕ). set (set l 0 n) 1 r) e f

pub filled-as : (words after : List ℕ) (number n : ℕ) (forms : List Polynomial) → after ≡ added_words number n forms words
    → used_slots (slots_of words) + new_forms (forms_in_use (slots_of words)) forms ≤ 128 → Filled words after number n forms 0
filled-as words after number n forms e h = rw e (filled-done words number n forms h)

pub withdrawn-is : (number : ℕ) (words all : List ℕ) (left n : ℕ) → all ≡ all_unlisted number words 0 128
    → left ≡ row_word (set (marks 32 (get_or words 1 0)) number false) → n ≡ unless_none left (get_or words 0 0)
    → set (set all 1 left) 0 n ≡ withdrawn_words number words
unfolding withdrawn_words
withdrawn-is number words all left n e f g =
    let row : List Bool = set (marks 32 (get_or words 1 0)) number false in
    ap₂ (λ (l : List ℕ) (r : ℕ). set (set l 1 r) 0 n) e f
    ∙ ap (set (set (all_unlisted number words 0 128) 1 (row_word row)) 0) (g ∙ ap (λ (r : ℕ). unless_none r (get_or words 0 0)) f ∙ none_left row (get_or words 0 0))

pub gives_as : {words after new : List ℕ} {refusal : ℕ} {outcome : Outcome Pool} → after ≡ new → Gives words new refusal outcome new → Gives words after refusal outcome new
gives_as e g = rw e g

-- What the listed forms come to is what the block comes to.
pub gives-forms : (number refusal : ℕ) (block : Block) (words after : List ℕ) (cs : List ℤ) (ms ts order : List ℕ) (count : ℕ) → 4354 ≤ length words
    → is_open number block words ≡ true → allowed number block words ≡ true → HoldsForms cs ms ts order count (forms_listed block)
    → Filled words after number block.variables (forms_in cs ms ts (numbers_from order 0 count)) refusal
    → Gives words after refusal (add_block number block (pool_of words)) (added_words number block.variables (forms_listed block) words)
gives-forms number refusal block words after cs ms ts order count room a b h filled =
    gives-filled number refusal block words after room
    (subst (λ (l : List Polynomial). Every Fits l) h.is (forms-fit cs ms ts h.room.few (numbers_from order 0 count))) a b
    (subst (λ (l : List Polynomial). Filled words after number block.variables l refusal) h.is filled)

-- A number that is open, or there, is below 32.
pub below-32 : (number : ℕ) (b : Bool) → (ltb number 32 && b) ≡ true → number < 32
below-32 number b e = ltb-true number 32 (and_first (ltb number 32) b e)
