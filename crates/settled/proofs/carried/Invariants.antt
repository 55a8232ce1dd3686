-- The atoms passed carry their sets, and an atom is left for each that is no variable's.
use Rattle.terms.specs.View.{sets_of}
use Rattle.round.specs.Views.{table_of}
use Rattle.settled.proofs.Carrying.{Carrying}
use Rattle.settled.proofs.carried.Given as goal

abbrev pub invariant-loop-i : goal.invariant-loop-i
invariant-loop-i l =
    Carrying (table_of l.coefficient l.monomial l.terms l.variables) (sets_of l.board) l.list l.atoms l.i l.next l.carried
