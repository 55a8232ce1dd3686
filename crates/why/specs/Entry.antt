-- What the functions of this crate tell of a block: the book's `why`, as an outcome, so many records, and what the lent records are afterwards.
use Rattle.std.specs.Prelude.{◌≡◌, refl, Result, Ok, Err, List, [], ◌++◌, map, ℕ, ◌≤◌, min, ℤ, pos, length, take, drop, replicate}
use Rattle.std.proofs.Common.{sym, ap₂, ◌∙◌, arith, length-take}
use Rattle.std.proofs.Math.Path.{ap}
use Rattle.std.proofs.lemmas.List.{length-map}
use Rattle.rules.specs.Block.{Block, Stream, read, read_block}
use Rattle.block.specs.declared.Held.{Held}
use Rattle.block.specs.declared.Contents.{Contents}
use Rattle.block.specs.declared.Refusal.{Refusal as BlockRefusal}
use Rattle.block.specs.Refusals as block
use Rattle.block.specs.Held.{held_by, held_of}
use Rattle.block.specs.Steps.{ContentsOf, ContentsFound}
use Rattle.rules.specs.Reasons.{Reason as BookReason, Why, refusal, explained, why_of, why, records_written}
use Rattle.reasons.specs.declared.Reason.{Reason}
use Rattle.reasons.specs.declared.Found.{Found}
use Rattle.reasons.specs.Records.{made}
use Rattle.reasons.specs.Records.{Tells as TellsReasons}
use Rattle.why.specs.declared.Refusal.{Refusal}
use Rattle.why.specs.Refusals.{number_of, by_number}
use Rattle.why.specs.declared.Told.{Told}

-- ---- The book's `why` as it is returned, by the refusal's number.

unfoldable pub outcome_of : Why → Result ℕ ℕ
outcome_of (refusal number) = Err number
outcome_of (explained rs) = Ok (length rs)

-- The reasons of what is explained; a refusal has none.
unfoldable pub reasons_in : Why → List BookReason
reasons_in (refusal number) = []
reasons_in (explained rs) = rs

-- The records of these, and how many; there is room for them.
pub record Tells (room : ℕ) (w : Why) (told : Told) : Type 0 where
  pub outcome : by_number told.outcome ≡ outcome_of w
  pub is : take told.found.count told.found.records ≡ map made (reasons_in w)
  pub size : told.found.count ≡ length (reasons_in w)
  pub enough : told.found.count ≤ room
  pub few : told.found.count ≤ 255
  pub there : told.found.count ≤ length told.found.records

pub tells-refusal : {room : ℕ} {r : Refusal} {w : Why} (told : Told) → w ≡ refusal (number_of r) → (told.outcome ≡ Err r) × (told.found.count ≡ 0)
    → Tells room w told
unfolding outcome_of reasons_in
tells-refusal told e (is, none) = record {
  outcome = rw (is, e);
  is = rw (none, e);
  size = rw (none, e);
  enough = omega arith;
  few = omega arith;
  there = omega arith;
}

pub tells-explained : {room : ℕ} {w : Why} (told : Told) {rs : List BookReason} → w ≡ explained rs → TellsReasons told.found rs
    → told.outcome ≡ Ok (length rs) → length rs ≤ room → length rs ≤ 255 → Tells room w told
unfolding outcome_of reasons_in
tells-explained told {rs} e tells is enough few =
    let count = told.found.count in
    let records = told.found.records in
    let many : min count (length records) ≡ count = sym (length-take count records) ∙ ap length tells.is ∙ length-map rs made
    ∙ sym tells.size in
    record {
      outcome = rw (is, e);
      is = rw e tells.is;
      size = rw e tells.size;
      enough = omega (arith, tells.size);
      few = omega (arith, tells.size);
      there = omega (arith, many);
    }

-- "Further records, and all on refusal, keep their contents."
pub written-by : (w : Why) (before : List Reason) → records_written made w before ≡ map made (reasons_in w) ++ drop (length (reasons_in w)) before
unfolding records_written reasons_in
written-by (refusal number) before = refl
written-by (explained rs) before = refl

-- ---- The entry.

-- What `fill` asks: the records are there, and there is room for them.
pub record Fits (found : Found) (records : List Reason) : Type 0 where
  pub enough : found.count ≤ length records
  pub few : found.count ≤ 255
  pub there : found.count ≤ length found.records

-- What is returned, and what the lent records are afterwards; at most 255 are told.
pub record Answers (w : Why) (before after : List Reason) (returned : Result ℕ Refusal) : Type 0 where
  pub returns : by_number returned ≡ outcome_of w
  pub few : length (reasons_in w) ≤ 255
  pub records : after ≡ records_written made w before

pub fits : {w : Why} {told : Told} {records : List Reason} → Tells (length records) w told → Fits told.found records
fits tells = record { enough = tells.enough; few = tells.few; there = tells.there }

pub answers : {w : Why} {told : Told} {before after : List Reason} {returned : Result ℕ Refusal} → Tells (length before) w told
    → after ≡ take told.found.count told.found.records ++ drop told.found.count before → returned ≡ told.outcome
    → Answers w before after returned
answers {w} {before} tells wrote same = record {
  returns = ap by_number same ∙ tells.outcome;
  few = omega (arith, tells.few, tells.size);
  records = wrote ∙ ap₂ (λ (l : List Reason) (k : ℕ). l ++ drop k before) tells.is tells.size ∙ sym (written-by w before);
}

-- ---- What the reader finds, in arrays that were blank.

-- A block that was read, held in arrays.
pub record Taken (bytes : List ℕ) (held : Held) : Type 0 where
  pub given : Block
  pub stream : Stream
  pub accepted : read_block bytes ≡ read given stream
  pub is : held ≡ held_of given

pub record TakenSome (held : Held) : Type 0 where
  pub bytes : List ℕ
  pub taken : Taken bytes held

module _ {bytes : List ℕ} {cs : List ℤ} {ms ts token : List ℕ} {contents : Result Contents BlockRefusal}
    (found : ContentsFound bytes (replicate 1024 (pos 0)) cs (replicate 1024 0) ms (replicate 64 0) ts (replicate 255 0) token contents) where
  pub found-refused : (room : ℕ) {r : BlockRefusal} → contents ≡ Err r → why room bytes ≡ refusal (block.number_of r)
  unfolding ContentsOf why why_of
  found-refused room e = ap (why_of room) (rw e at found).found

  pub found-taken : {held : Contents} → contents ≡ Ok held
      → Taken bytes (held_by held.variables held.polynomials held.root held.tokens cs ms ts token)
  unfolding ContentsOf held_of
  found-taken e = let stored = (rw e at found).found in record {
    given = stored.block;
    stream = stored.rest;
    accepted = stored.reading;
    is =
        stored.stored;
  }
