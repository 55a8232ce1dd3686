-- `can_be` meets its contract.
use Rattle.sieve.proofs.Bars.{can-be-positive, can-be-negative}
use Rattle.sieve.proofs.tries.can_be.Statement.{statement}
use Rattle.sieve.proofs.tries.can_be.Tie as tie

returns : tie.Need-returns-then-lowers
returns c = can-be-positive _ c.if-lowers.true

returns-2 : tie.Need-returns-else-lowers
returns-2 c = can-be-negative _ c.if-lowers.false

pub can_be_spec : {M : Type 1} → statement M
can_be_spec = tie.close (tie.spec returns returns-2)
