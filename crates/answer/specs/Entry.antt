-- What `answer_to` asks and says, and what the entries say: what is held was read from these bytes, and the lent output and what is returned are the
-- book's answer to them.
use Rattle.std.specs.Prelude.{◌≡◌, Result, List, ◌++◌, ℕ, ◌≤◌, max, length, drop}
use Rattle.rules.specs.Block.{Block, Stream, read, edition_number, head_edition, read_block}
use Rattle.rules.specs.Answer.{written, answer, read_places, rounds_of}
use Rattle.block.specs.declared.Held.{Held}
use Rattle.block.specs.Held.{held_of}
use Rattle.answer.specs.declared.Answer.{Answer}
use Rattle.answer.specs.declared.Refusal.{Refusal}
use Rattle.answer.specs.Refusals.{by_number}
use Rattle.answer.specs.Answered.{answer_of}

-- What is held was read from these bytes, which are in this edition, and there is room for as many.
pub record Accepted (bytes : List ℕ) (edition : ℕ) (held : Held) (room : ℕ) : Type 0 where
  pub in_edition : edition ≡ edition_number (head_edition bytes)
  pub given : Block
  pub stream : Stream
  pub accepted : read_block bytes ≡ read given stream
  pub is : held ≡ held_of given
  pub enough : length bytes ≤ room

pub record AcceptedSome (edition : ℕ) (held : Held) (room : ℕ) : Type 0 where
  pub bytes : List ℕ
  pub accepted : Accepted bytes edition held room

-- What is returned, and what the lent output holds afterwards, is the book's answer to the bytes.
pub record Answers (bytes before after : List ℕ) (returned : Result Answer Refusal) : Type 0 where
  pub returns : by_number returned ≡ answer_of (answer (length before) bytes)
  pub output : after ≡ written (answer (length before) bytes) before

-- What the lent slice of places holds afterwards: the places of the answer's atoms, then what was there before.
pub record TellsPlaces (bytes before after : List ℕ) : Type 0 where
  pub is : after ≡ read_places (read_block bytes) ++ drop (length (read_places (read_block bytes))) before

-- The larger of the largest number of rounds so far and that of the bytes.
pub record CountsRounds (bytes : List ℕ) (largest rounds : ℕ) : Type 0 where
  pub is : rounds ≡ max largest (rounds_of (read_block bytes))
