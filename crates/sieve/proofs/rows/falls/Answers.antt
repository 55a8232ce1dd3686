use Rattle.std.proofs.Common.{arith}
use Rattle.sieve.proofs.Merge.{falls-end}
use Rattle.sieve.proofs.rows.falls.Goals as goal

pub loop-i-init : goal.loop-i-init
loop-i-init c = record { each = λ j a b d. absurd (omega (arith, a, b)) }

pub returns : goal.returns
returns c e = falls-end c.loop-i.invariant c.loop-i-test.false
