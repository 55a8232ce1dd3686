-- What is left of the list, placed and listed after what is there, makes the start.
use Rattle.std.proofs.Common.{◌≡◌}
use Rattle.table.specs.Table.{many}
use Rattle.round.specs.Views.{table_of}
use Rattle.rounds.proofs.Starts.{Starting}
use Rattle.rounds.proofs.start.start.Given as goal

abbrev pub invariant-loop-i : goal.invariant-loop-i
invariant-loop-i l = record {
  all : l.end ≡ many l.list.count;
  starting : Starting (table_of l.coefficient l.monomial l.terms l.variables) l.list l.i l.board l.atoms;
}
