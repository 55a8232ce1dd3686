-- `pairs::still_above` meets its contract.
use borrow.Author.Rules.{rules}
use Rattle.pairs.proofs.still_above.Statement.{statement}
use Rattle.pairs.proofs.still_above.Tie as tie

pub still_above_spec : {M : Type 1} → statement M
still_above_spec = tie.close (tie.spec (λ c. rw c.if-above.true) (λ c. search rules))
