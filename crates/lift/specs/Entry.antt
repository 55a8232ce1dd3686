-- The entry by cases: what is refused leaves the output as it was; what the reader finds is a refusal, or a block held in arrays that were blank.
-- 01, "Refusal numbers": "A refusal returns its number and length 0 and the output keeps each byte."
use Rattle.std.specs.Prelude.{◌≡◌, Result, Ok, Err, List, ℕ, ◌<◌, ◌≤◌, ℤ, pos, length, replicate}
use Rattle.std.proofs.Common.{sym, ap}
use Rattle.rules.specs.Block.{refused, edition_number, head_edition, read_block}
use Rattle.rules.specs.Answer.{Answer as BookAnswer, written}
use Rattle.block.specs.declared.Contents.{Contents}
use Rattle.block.specs.declared.Refusal.{Refusal as BlockRefusal}
use Rattle.block.specs.Refusals as block
use Rattle.block.specs.Held.{held_by, held_of}
use Rattle.block.specs.Steps.{ContentsOf, ContentsFound}
use Rattle.answer.specs.declared.Refusal.TheVariants.{OutputShort, Block as BlockRefused}
use Rattle.answer.specs.Answered.{answer_of, answer-short, answer-refused}
use Rattle.answer.specs.Entry.{Accepted, Answers}

-- ---- refusals

-- Too little room: refused with 1, and nothing is written.
pub answers-short : (bytes before : List ℕ) → length before < length bytes → Answers bytes before before (Err OutputShort)
unfolding answer_of written
answers-short bytes before h = record {
  returns = sym (ap answer_of (answer-short (length before) bytes h));
  output = sym (ap (λ (a : BookAnswer). written a before) (answer-short (length before) bytes h));
}

-- What the reader refuses is refused with its number, and nothing is written.
pub answers-refused : (bytes before : List ℕ) {refusal : BlockRefusal} → length bytes ≤ length before → read_block bytes ≡ refused (block.number_of refusal)
    → Answers bytes before before (Err (BlockRefused refusal))
unfolding answer_of written
answers-refused bytes before enough is =
    let refused-so = answer-refused (length before) bytes enough is in
    record { returns = sym (ap answer_of refused-so); output = sym (ap (λ (a : BookAnswer). written a before) refused-so) }

-- ---- what the reader finds

module _ {bytes : List ℕ} {cs : List ℤ} {ms ts token : List ℕ} {contents : Result Contents BlockRefusal}
    (found : ContentsFound bytes (replicate 1024 (pos 0)) cs (replicate 1024 0) ms (replicate 64 0) ts (replicate 255 0) token contents) where
  -- A refusal,
  pub found-refused : {refusal : BlockRefusal} → contents ≡ Err refusal → read_block bytes ≡ refused (block.number_of refusal)
  unfolding ContentsOf
  found-refused e = (rw e at found).found

  -- or what is accepted, held in arrays that were blank.
  pub found-accepted : {edition : ℕ} {given : Contents} (room : ℕ) → contents ≡ Ok given → length bytes ≤ room → edition ≡ edition_number (head_edition bytes)
      → Accepted bytes edition (held_by given.variables given.polynomials given.root given.tokens cs ms ts token) room
  unfolding ContentsOf held_of
  found-accepted room e enough in_edition =
      let stored = (rw e at found).found in
      record { in_edition = in_edition; given = stored.block; stream = stored.rest; accepted = stored.reading; is = stored.stored; enough = enough }
