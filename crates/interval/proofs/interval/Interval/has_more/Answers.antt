use Rattle.rules.specs.Deduce.{has_more}
use Rattle.interval.proofs.interval.Interval.has_more.Goals as goal

pub returns-then-not-self : goal.returns-then-not-self
unfolding has_more
returns-then-not-self c = simp c.if-not-self.true c.below.ensures

pub returns-else-not-self : goal.returns-else-not-self
unfolding has_more
returns-else-not-self c = simp c.if-not-self.false
