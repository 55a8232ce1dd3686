use borrow.Author.Rules.{rules}
use Rattle.level.proofs.writing.told.Statement.{statement}
use Rattle.level.proofs.writing.told.Tie as tie

pub told_spec : {M : Type 1} → statement M
told_spec = tie.close (tie.spec (λ c. rw c.if-conjunction.true) (λ c κs. search rules) (λ c. rw (c.before.if-conjunction.false, c.opposite.ensures)))
