-- `taken` meets its contract, sign by sign.
use borrow.Author.Rules.{rules}
use Rattle.common_run.proofs.Sole.{three-signs}
use Rattle.common_run.proofs.takers.taken.Statement.{statement}
use Rattle.common_run.proofs.takers.taken.Tie as tie

returns : tie.Need-returns
returns c = three-signs _ _ _ _ c.before.before.taker-negative.ensures c.before.taker-nought.ensures c.taker-positive.ensures

pub taken_spec : {M : Type 1} → statement M
taken_spec = tie.close (tie.spec (λ c κs. search rules) (λ c κs. search rules) (λ c κs. search rules) returns)
