-- `lost` meets its contract.
use borrow.Author.Rules.{rules}
use Rattle.common_run.proofs.Knowing.{lost-staying, lost-unknown}
use Rattle.common_run.proofs.without.lost.Statement.{statement}
use Rattle.common_run.proofs.without.lost.Tie as tie

pub lost_spec : {M : Type 1} → statement M
lost_spec = tie.close (tie.spec (λ c κs. search rules) (λ c. lost-unknown _ c.unknown.ensures) (λ c. lost-staying _ c.if-out.false))
