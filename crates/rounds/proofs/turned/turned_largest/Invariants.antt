-- The rounds begun and those from the board at hand are all of them from the first.
use Rattle.round.specs.Views.{table_of}
use Rattle.rounds.proofs.Standing.{Standing}
use Rattle.rounds.proofs.turned.turned_largest.Given as goal

abbrev pub invariant-loop-ended : goal.invariant-loop-ended
invariant-loop-ended l =
    Standing (table_of l.coefficient l.monomial l.terms l.initial.stood.variables) l.atoms l.enough l.ended l.initial.stood l.stood l.floor l.sign
