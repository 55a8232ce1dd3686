-- Of the atoms passed, those of other slots are stored one behind the other.
use Rattle.settled.proofs.OtherAtoms.{OthersBefore}
use Rattle.settled.proofs.others.other_than.Given as goal

abbrev pub invariant-loop-i : goal.invariant-loop-i
invariant-loop-i l = OthersBefore l.list l.number l.i l.next l.others
