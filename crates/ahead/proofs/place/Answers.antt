use Rattle.ahead.specs.Ahead.{place_of}
use Rattle.ahead.proofs.place.Goals as goal

pub returns-then-up : goal.returns-then-up
unfolding place_of
returns-then-up c = rw c.if-up.true

pub returns-else-up : goal.returns-else-up
unfolding place_of
returns-else-up c = rw c.if-up.false
