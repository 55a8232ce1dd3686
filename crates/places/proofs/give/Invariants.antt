-- The tokens passed have their places, and the place that comes next is known.
use Rattle.std.proofs.Common.{take}
use Rattle.places.proofs.Walks.{Giving}
use Rattle.places.proofs.give.Given as goal

abbrev pub invariant-loop-t : goal.invariant-loop-t
invariant-loop-t l = Giving (take l.count l.fn.token) l.t-items l.t-index l.place
