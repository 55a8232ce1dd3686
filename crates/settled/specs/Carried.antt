-- The sets that the atoms of a list carry from the state that its rounds settled in: a variable's from the board, the others' in order.
use Rattle.std.specs.Prelude.{◌≡◌, List, ℕ, ◌+◌, get_or}
use Rattle.std.proofs.Math.Option.{Option, none, some}
use Rattle.rules.specs.Signs.{SignSet, full}
use Rattle.rules.specs.Polynomial.{Atom, Board}
use Rattle.table.specs.declared.Atoms.{Atoms}
use Rattle.table.specs.Table.{Table, atoms_of}

-- the set of one atom, where the next atom that is no variable's stands at j; and where it stands after that
unfoldable pub carried_set : Option ℕ → Board → List SignSet → ℕ → SignSet
carried_set (some i) board sets j = get_or board i full
carried_set none board sets j = get_or sets j 0

unfoldable pub carried_next : Option ℕ → ℕ → ℕ
carried_next (some i) j = j
carried_next none j = j + 1

-- r is the list with other sets, and its atoms are those that are said
pub record Carried (t : Table) (list : Atoms) (l : List Atom) (r : Atoms) : Type 0 where
  pub count : r.count ≡ list.count
  pub number : r.number ≡ list.number
  pub atoms : atoms_of t r ≡ l
