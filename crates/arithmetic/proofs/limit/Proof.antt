-- `arithmetic::limit` meets its contract.
use Rattle.arithmetic.specs.Numbers.{limit_of}
use Rattle.arithmetic.proofs.limit.Statement.{statement}
use Rattle.arithmetic.proofs.limit.Tie as tie

returns : tie.Need-returns-then-negative
unfolding limit_of
returns c = rw c.if-negative.true

returns-2 : tie.Need-returns-else-negative
unfolding limit_of
returns-2 c = rw c.if-negative.false

pub limit_spec : {M : Type 1} → statement M
limit_spec = tie.close (tie.spec returns returns-2)
