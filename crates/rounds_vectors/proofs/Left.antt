-- What the reader leaves in its arrays, where it refuses nothing, is what the working table asks for: a block's table.
use Rattle.std.specs.Prelude.{◌≡◌, refl, Ok, List, ℕ}
use Rattle.rules.specs.Block.{Block, Reading, refused, read, read_block}
use Rattle.block.specs.Held.{HeldBy, HeldFound}
use Rattle.block.specs.declared.Held.{Held}
use Rattle.forms.specs.Working.{TableRead}
use Rattle.array_laws.specs.Arrays.{accepted-table-read}

abbrev pub Left : Held → Type 0
Left held = TableRead held.coefficient held.monomial held.terms held.polynomials held.variables

left_by : (bytes : List ℕ) (held : Held) (reading : Reading Block) → read_block bytes ≡ reading → HeldBy reading (Ok held) → Left held
unfolding HeldBy
left_by bytes held (refused number) e found = absurd found
left_by bytes held (read given rest) e found = rw found (accepted-table-read bytes e)

-- The reader leaves a table.
pub left : {bytes : List ℕ} {held : Held} → HeldFound bytes (Ok held) → Left held
left {bytes} {held} h = left_by bytes held (read_block bytes) refl h.found
