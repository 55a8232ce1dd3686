-- `found` meets its contract, by the two truth values.
use Rattle.rules.specs.Deduce.{found}
use Rattle.plain.proofs.tests.found.Statement.{statement}
use Rattle.plain.proofs.tests.found.Tie as tie

returns : tie.Need-returns-then-strict
unfolding found
returns c = rw c.if-strict.true

returns-2 : tie.Need-returns-then-weak
unfolding found
returns-2 c = rw (c.before.if-strict.false, c.if-weak.true)

returns-3 : tie.Need-returns-else-weak
unfolding found
returns-3 c = rw (c.before.if-strict.false, c.if-weak.false)

pub found_spec : {M : Type 1} → statement M
found_spec = tie.close (tie.spec returns returns-2 returns-3)
