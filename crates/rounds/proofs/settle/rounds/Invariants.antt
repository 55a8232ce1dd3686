-- The rounds from the state at hand end as all of them do from the first.
use Rattle.round.specs.Views.{table_of}
use Rattle.rounds.proofs.Ends.{Going}
use Rattle.rounds.proofs.settle.rounds.Given as goal

abbrev pub invariant-loop-ended : goal.invariant-loop-ended
invariant-loop-ended l =
    Going (table_of l.coefficient l.monomial l.terms l.initial.current.board.variables) l.enough l.initial.current l.ended l.current
