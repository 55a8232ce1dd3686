-- Tokens. An atom's is place * 512 + slot * 8 + set, below 2 ^ 24. A place is below 254, so that the bits from 2 ^ 17 on are free.
use Rattle.std.specs.Prelude.{List, map, ℕ, ◌+◌, ◌*◌, ◌/◌, ◌%◌}
use Rattle.rules.specs.Signs.{complement}
use Rattle.rules.specs.Level.{Placed}
use Rattle.table.specs.Table.{Table, form_at}

-- The slot of the table that an atom's token names.
abbrev pub slot : ℕ → ℕ
slot t = t / 8 % 64

-- The place of the input atom that it comes from.
abbrev pub place : ℕ → ℕ
place t = t / 512 % 32768

-- The atom of a token.
unfoldable pub atom_of : Table → ℕ → Placed
atom_of table t = record { polynomial = form_at table (slot t); set = t % 8; place = place t }

abbrev pub atoms_in : Table → List ℕ → List Placed
atoms_in table l = map (atom_of table) l

-- The token with the complemented set.
abbrev pub opposite : ℕ → ℕ
opposite t = t / 8 * 8 + complement (t % 8)
