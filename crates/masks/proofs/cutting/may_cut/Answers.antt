use Rattle.std.proofs.Common.{arith}
use Rattle.masks.specs.Passes.{some-cut, neither-cuts}
use Rattle.masks.proofs.cutting.may_cut.Goals as goal

pub returns-then-set-ge8 : goal.returns-then-set-ge8
returns-then-set-ge8 c = some-cut

pub returns-then-some_both : goal.returns-then-some_both
returns-then-some_both c = some-cut

pub returns : goal.returns
returns c = neither-cuts (omega arith) c.some_both.ensures c.if-some_both.false (rw c.swapped.ensures at c.some_both-2.ensures)
