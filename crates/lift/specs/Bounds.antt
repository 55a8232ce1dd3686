-- What an answer can be: a refusal with a number of the table, or a block of 5 to 21,516 bytes, of at most 12,684 in edition 1.
-- 01, "Refusal numbers" and "The block"; 02, #109.
use Rattle.std.specs.Prelude.{◌≡◌, refl, Bool, true, false, List, ℕ, ◌≤◌, leb, length}
use Rattle.std.proofs.Common.{arith}
use Rattle.rules.specs.Bits.{bytes_for}
use Rattle.rules.specs.Block.{Block, Edition, edition1, edition2, head_edition, Reading, refused, read, read_block, write_block, block_length}
use Rattle.rules.specs.Answer.{Verdict, Counts, Answer, refusal, answered, new_block, answer_to, unless_short, answer}
use Rattle.block_laws.specs.Sizes.{length-block, longest, longest-block}
use Rattle.lift.specs.Refusals.{Listed, listed, refused-listed}
use Rattle.answer.specs.Travel.{new-writable}

pub data Bounded : Answer → Type 0 where
  by_number : {number : ℕ} → Listed number → Bounded (refusal number)
  by_block : {verdict : Verdict} {bytes : List ℕ} {counts : Counts} → 5 ≤ length bytes → length bytes ≤ 21516 → Bounded (answered verdict bytes counts)

-- The head alone takes 5 bytes: 4 + 5 + 7 + 8 + 16 bits.
at-least-head : (edition : Edition) (block : Block) → 5 ≤ block_length edition block
unfolding block_length bytes_for
at-least-head edition block = omega arith

longest-at-most : (edition : Edition) → longest edition ≤ 21516
unfolding longest
longest-at-most edition1 = omega arith
longest-at-most edition2 = omega arith

reading-bounded : (bytes : List ℕ) (reading : Reading Block) → read_block bytes ≡ reading → Bounded (answer_to (head_edition bytes) reading)
unfolding answer_to
reading-bounded bytes (refused number) is = by_number (refused-listed bytes is)
reading-bounded bytes (read given stream) is =
    let new = new_block given in
    let own = head_edition bytes in
    let head : 5 ≤ length (write_block own new) = omega (arith, length-block own new, at-least-head own new) in
    let most : length (write_block own new) ≤ 21516 =
    omega (arith, length-block own new, longest-block own new (new-writable bytes is), longest-at-most own) in
    by_block head most

room-bounded : (enough : Bool) (a : Answer) → Bounded a → Bounded (unless_short enough a)
unfolding unless_short
room-bounded true a bounded = bounded
room-bounded false a bounded = by_number (listed tt tt)

-- However much output is lent, the answer to any bytes is one of these.
pub answer-bounded : (room : ℕ) (bytes : List ℕ) → Bounded (answer room bytes)
unfolding answer
answer-bounded room bytes =
    room-bounded (leb (length bytes) room) (answer_to (head_edition bytes) (read_block bytes)) (reading-bounded bytes (read_block bytes) refl)
