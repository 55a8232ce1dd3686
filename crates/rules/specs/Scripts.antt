-- #112, what is told for a block in bytes: the reader's refusals, "24 if the lent text buffer is shorter than the finished script, after 15", or the
-- script; and what the lent text holds then.
use Rattle.std.specs.Prelude.{Bool, true, false, List, ◌++◌, ℕ, ◌+◌, leb, length, drop}
use Rattle.rules.specs.Block.{Block, Reading, refused, read, read_block}
use Rattle.rules.specs.Answer.{new_block}
use Rattle.rules.specs.Text.{script_of}

pub data Scripted : Type 0 where
  refused_by : ℕ → Scripted
  scripted : List ℕ → Scripted

unfoldable pub unless_longer : Bool → List ℕ → Scripted
unless_longer true text = scripted text
unless_longer false text = refused_by 24

-- The script of a block, where it fits into so many bytes.
unfoldable pub script_within : ℕ → Block → Scripted
script_within room block = unless_longer (leb (length (script_of block)) room) (script_of block)

unfoldable pub script_read : ℕ → Reading Block → Scripted
script_read room (refused number) = refused_by number
script_read room (read block stream) = script_within room block

-- "Simplify a block and write the answer as a script"
unfoldable pub simplified_read : Reading Block → Reading Block
simplified_read (refused number) = refused number
simplified_read (read given stream) = read (new_block given) stream

unfoldable pub script_answer : ℕ → List ℕ → Scripted
script_answer room input = script_read room (simplified_read (read_block input))

-- The lent text afterwards: "On refusal the text keeps each byte; else the script and then what was there."
unfoldable pub script_written : Scripted → List ℕ → List ℕ
script_written (refused_by number) text = text
script_written (scripted bytes) text = bytes ++ drop (length bytes) text

-- One number for C: below 256 the refusal's, else 65,536 and the script's length.
unfoldable pub script_number : Scripted → ℕ
script_number (refused_by number) = number
script_number (scripted bytes) = 65536 + length bytes

-- To unfold this is to unfold every definition of this file.
unfoldable pub open_scripts : Unit {0}
unfolding unless_longer script_within script_read simplified_read script_answer script_written script_number
open_scripts = tt
