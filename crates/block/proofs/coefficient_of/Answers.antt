-- A magnitude below 2 ^ 31 and its negation fit.
use Rattle.std.proofs.Common.{◌∙◌}
use Rattle.block.proofs.Signed.{plus-value, minus-value, signed-plus, signed-minus}
use Rattle.block.proofs.coefficient_of.Goals as goal

pub returns-then-minus-eq0 : goal.returns-then-minus-eq0
returns-then-minus-eq0 c = plus-value c.args.magnitude c.requires ∙ signed-plus c.args.minus c.args.magnitude c.if-minus-eq0.true

pub returns : goal.returns
returns c = minus-value c.args.magnitude c.requires ∙ signed-minus c.args.minus c.args.magnitude c.if-minus-eq0.false
