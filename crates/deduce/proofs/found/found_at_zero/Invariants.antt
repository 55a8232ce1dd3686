-- What the terms of p that are left leave of what is left is what all of them leave.
use Rattle.deduce.proofs.LastWalks.{ZeroWalked}
use Rattle.deduce.proofs.found.found_at_zero.Given as goal

abbrev pub invariant-loop-i : goal.invariant-loop-i
invariant-loop-i l = ZeroWalked l.coefficient l.sign l.fn.p.to l.fn.last l.fn.p.from l.left l.i
