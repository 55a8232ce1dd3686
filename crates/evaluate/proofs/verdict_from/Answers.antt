use Rattle.evaluate.specs.Entry.{verdict_of}
use Rattle.evaluate.proofs.verdict_from.Goals as goal

pub returns-then-not-fits : goal.returns-then-not-fits
unfolding verdict_of
returns-then-not-fits c = rw c.if-not-fits.true

pub returns-then-holds : goal.returns-then-holds
unfolding verdict_of
returns-then-holds c = rw (c.if-not-fits.false, c.if-holds.true)

pub returns : goal.returns
unfolding verdict_of
returns c = rw (c.if-not-fits.false, c.if-holds.false)
