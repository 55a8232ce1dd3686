-- `arithmetic::both` meets its contract.
use Rattle.arithmetic.specs.Numbers.{both}
use Rattle.arithmetic.proofs.both.Statement.{statement}
use Rattle.arithmetic.proofs.both.Tie as tie

returns : tie.Need-returns-then-a
unfolding both
returns c = rw c.if-a.true

returns-2 : tie.Need-returns-else-a
unfolding both
returns-2 c = rw c.if-a.false

pub both_spec : {M : Type 1} → statement M
both_spec = tie.close (tie.spec returns returns-2)
