use Rattle.interval.specs.Coefficients.{zero_test, is-zero, not_zero}
use Rattle.deduce.proofs.last.leaves_one.Goals as goal

pub returns-then-b-ne0 : goal.returns-then-b-ne0
returns-then-b-ne0 c = rw (not_zero c.ranges.b c.if-b-ne0.true) c.asks_zero.ensures

pub returns-else-b-ne0 : goal.returns-else-b-ne0
returns-else-b-ne0 c = rw (zero_test c.ranges.b, is-zero c.ranges.b c.if-b-ne0.false)
