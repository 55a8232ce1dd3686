-- 02, #109: "a converter each way": the same variables, table and tree, written in the other edition; and what the lent output holds then.
use Rattle.std.specs.Prelude.{Bool, true, false, List, ◌++◌, ℕ, leb, length, drop}
use Rattle.rules.specs.Block.{Block, Edition, Reading, refused, read, read_block, write_block}

-- A refusal's number, or the finished block.
pub data Conversion : Type 0 where
  not_converted : ℕ → Conversion
  converted : List ℕ → Conversion

-- "the converter gives 1 after all others, if the output is shorter than the finished block"
unfoldable pub if_room_for : Bool → List ℕ → Conversion
if_room_for true bytes = converted bytes
if_room_for false bytes = not_converted 1

unfoldable pub converted_to : Edition → ℕ → Reading Block → Conversion
converted_to edition room (refused number) = not_converted number
converted_to edition room (read block stream) = let bytes = write_block edition block in if_room_for (leb (length bytes) room) bytes

-- To an edition, from either, into so much room.
unfoldable pub convert : Edition → ℕ → List ℕ → Conversion
convert edition room bytes = converted_to edition room (read_block bytes)

-- The lent output afterwards: on refusal each byte, else the finished block and then what was there.
unfoldable pub converted_into : Conversion → List ℕ → List ℕ
converted_into (not_converted number) output = output
converted_into (converted bytes) output = bytes ++ drop (length bytes) output

-- To unfold this is to unfold every definition of this file.
unfoldable pub open_convert : Unit {0}
unfolding if_room_for converted_to convert converted_into
open_convert = tt
