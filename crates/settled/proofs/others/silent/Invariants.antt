-- The atoms passed have the full set exactly if they are of the slot.
use Rattle.settled.proofs.SilentAtoms.{SilentBefore}
use Rattle.settled.proofs.others.silent.Given as goal

abbrev pub invariant-loop-i : goal.invariant-loop-i
invariant-loop-i l = SilentBefore l.list l.number l.i l.quiet
