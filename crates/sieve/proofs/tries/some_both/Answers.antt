use Rattle.std.proofs.Common.{arith}
use Rattle.sieve.proofs.Bars.{both-begun, both-on, both-ended, both-pass}
use Rattle.sieve.proofs.tries.some_both.Goals as goal

pub loop-i-init : goal.loop-i-init
loop-i-init c = both-begun

pub returns-then-n-row : goal.returns-then-n-row
returns-then-n-row c = both-pass

pub loop-i-preserved : goal.loop-i-preserved
loop-i-preserved c = both-on c.loop-i.invariant c.factor-u.ensures c.some_second-row.ensures (omega (arith, c.if-n-row.false))

pub returns : goal.returns
returns c = both-ended c.loop-i.invariant c.loop-i-test.false
