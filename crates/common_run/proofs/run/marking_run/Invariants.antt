-- The rounds that are over are those of the common run, with their boards and marks.
use Rattle.std.proofs.Common.{◌≡◌, length}
use Rattle.round.specs.Views.{table_of}
use Rattle.common_run.proofs.Running.{Running}
use Rattle.common_run.proofs.run.marking_run.Given as goal

abbrev pub invariant-loop-round : goal.invariant-loop-round
invariant-loop-round l = record {
  running : Running (table_of l.coefficient l.monomial l.terms l.initial.stood.variables) (record { board = l.initial.stood; atoms = l.atoms }) l.round l.stood l.boards.sets l.marks l.sign;
  sixteen : length l.stood.sets ≡ 16;
}
