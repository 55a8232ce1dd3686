-- `no_takers` meets its contract.
use mathlib.Core.Path.{refl}
use Rattle.common_run.proofs.Sole.{no-taker}
use Rattle.common_run.proofs.takers.no_takers.Statement.{statement}
use Rattle.common_run.proofs.takers.no_takers.Tie as tie

pub no_takers_spec : {M : Type 1} → statement M
no_takers_spec = tie.close (tie.spec (λ c. no-taker refl refl refl))
