use Rattle.interval.specs.Coefficients.{zero_test, is-zero, not_zero}
use Rattle.interval.proofs.vanishing.both_zero.Goals as goal

pub returns-then-a-eq0 : goal.returns-then-a-eq0
returns-then-a-eq0 c = simp (zero_test c.ranges.b, is-zero c.ranges.a c.if-a-eq0.true)

pub returns-else-a-eq0 : goal.returns-else-a-eq0
returns-else-a-eq0 c = simp (zero_test c.ranges.a, not_zero c.ranges.a c.if-a-eq0.false)
