-- One record more each turn, at the next place.
use Rattle.std.proofs.Common.{arith}
use Rattle.reasons.specs.Records.{blank}
use Rattle.why.proofs.Filling.{filling, filled, filled-all}
use Rattle.why.proofs.fill.Goals as goal

pub loop-i-init : goal.loop-i-init
loop-i-init c = filling _ _ _

pub loop-i-preserved : goal.loop-i-preserved
loop-i-preserved c = filled blank c.loop-i.invariant (omega arith) c.requires.there c.requires.enough c.record_at.ensures

pub returns : goal.returns
returns c = filled-all c.loop-i.invariant (omega arith)
