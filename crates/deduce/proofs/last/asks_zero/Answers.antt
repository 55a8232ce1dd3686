use borrow.Author.Tests.{eq-eqb}
use Rattle.std.proofs.Common.{◌∙◌}
use Rattle.deduce.proofs.SignSets.{zero-asked, zero-asked-from}
use Rattle.deduce.proofs.last.asks_zero.Goals as goal

pub returns-then-s-eq5 : goal.returns-then-s-eq5
returns-then-s-eq5 c = eq-eqb _ _ c.if-s-eq5.true ∙ zero-asked _ c.if-s-eq5.true

pub returns-else-s-eq5 : goal.returns-else-s-eq5
returns-else-s-eq5 c = zero-asked-from _ c.if-s-eq5.false
