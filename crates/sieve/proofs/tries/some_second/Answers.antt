use Rattle.std.proofs.Common.{arith}
use Rattle.sieve.proofs.Bars.{second-begun, second-on, second_ended, second-passes}
use Rattle.sieve.proofs.tries.some_second.Goals as goal

pub loop-j-init : goal.loop-j-init
loop-j-init c = second-begun

pub returns-then-n-row : goal.returns-then-n-row
returns-then-n-row c = second-passes

pub loop-j-preserved : goal.loop-j-preserved
loop-j-preserved c = second-on c.loop-j.invariant c.factor-w.ensures c.may_pass-row.ensures (omega (arith, c.if-n-row.false))

pub returns : goal.returns
returns c = second_ended c.ranges.u c.loop-j.invariant c.loop-j-test.false
