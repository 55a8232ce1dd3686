-- Nothing was found of the atoms so far.
use Rattle.std.proofs.Common.{◌≡◌, ℕ, ◌<◌}
use Rattle.std.proofs.Math.Option.{none}
use Rattle.terms.specs.View.{sets_of}
use Rattle.table.specs.Table.{many}
use Rattle.round.specs.Views.{table_of}
use Rattle.search.proofs.Firsts.{first_at}
use Rattle.search.proofs.atoms.search_atoms_by.Given as goal

abbrev pub invariant-loop-i : goal.invariant-loop-i
invariant-loop-i l = (j : ℕ) → j < l.i
    → first_at (table_of l.coefficient l.monomial l.terms l.board.variables) l.atoms.number l.atoms.set (sets_of l.board) (many l.atoms.count) j ≡ none
