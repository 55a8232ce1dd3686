-- The atoms among the tokens passed have told their places.
use Rattle.std.proofs.Common.{take}
use Rattle.places.proofs.Walks.{Telling}
use Rattle.places.proofs.tell.Given as goal

abbrev pub invariant-loop-t : goal.invariant-loop-t
invariant-loop-t l = Telling (take l.count l.token) l.fn.places l.places l.t-index l.told
