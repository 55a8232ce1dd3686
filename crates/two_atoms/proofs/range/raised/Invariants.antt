-- Each index that was passed over fails.
use Rattle.two_atoms.specs.Ranges.{Raised}
use Rattle.two_atoms.proofs.range.raised.Given as goal

abbrev pub invariant-loop-i : goal.invariant-loop-i
invariant-loop-i l = Raised l.x l.b l.s l.asked.0 l.from l.to l.i
