-- The columns of the words of a list's atoms (crate columns): the atom at i has bit i.
-- The bits above the list's atoms are not spoken of.
use Rattle.std.specs.Prelude.{◌≡◌, List, ℕ, ◌<◌, length, get_or}
use Rattle.table.specs.declared.Atoms.{Atoms}
use Rattle.table.specs.Table.{many}
use Rattle.columns.specs.Columns.{Noted}
use Rattle.search.specs.Masked.{mask_at}

pub record NotedAtoms (a : Atoms) (ws columns : List ℕ) : Type 0 where
  pub words : length columns ≡ 130
  pub atoms : (i : ℕ) → i < many a.count → Noted columns i (mask_at ws i) (get_or a.set i 0)
