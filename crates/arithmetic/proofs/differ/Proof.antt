-- `arithmetic::differ` meets its contract.
use Rattle.arithmetic.specs.Numbers.{differ}
use Rattle.arithmetic.proofs.differ.Statement.{statement}
use Rattle.arithmetic.proofs.differ.Tie as tie

returns : tie.Need-returns-then-a
unfolding differ
returns c = rw c.if-a.true

returns-2 : tie.Need-returns-else-a
unfolding differ
returns-2 c = rw c.if-a.false

pub differ_spec : {M : Type 1} → statement M
differ_spec = tie.close (tie.spec returns returns-2)
