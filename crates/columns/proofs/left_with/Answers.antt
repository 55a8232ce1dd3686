use Rattle.rules.specs.Signs.{SignSet, kind}
use Rattle.masks.specs.declared.Mask.{Mask}
use Rattle.masks.specs.Masks.{joined, some_second}
use Rattle.columns.specs.Columns.{left-under, left-none}
use Rattle.columns.proofs.left_with.Goals as goal

pub returns-then-allowed : goal.returns-then-allowed
returns-then-allowed c = left-under c.args.allowed c.left_of.ensures

pub returns : goal.returns
returns c = left-none (λ (q2 : Mask) (set2 : SignSet). some_second (joined c.args.p c.args.q) q2 (kind set2)) c.if-allowed.false
