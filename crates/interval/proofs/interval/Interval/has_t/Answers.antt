use Rattle.rules.specs.Deduce.{has_t}
use Rattle.interval.proofs.interval.Interval.has_t.Goals as goal

pub returns-then-not-self : goal.returns-then-not-self
unfolding has_t
returns-then-not-self c = simp c.if-not-self.true c.at_most.ensures

pub returns-else-not-self : goal.returns-else-not-self
unfolding has_t
returns-else-not-self c = simp c.if-not-self.false
