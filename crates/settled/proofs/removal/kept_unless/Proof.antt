-- `kept_unless` meets its contract: the flag is stored, and the atom pushed if it remains.
use borrow.Author.Rules.{rules}
use Rattle.settled.proofs.Removing.{removed-one, kept-one}
use Rattle.settled.proofs.removal.kept_unless.Statement.{statement}
use Rattle.settled.proofs.removal.kept_unless.Tie as tie

pub kept_unless_spec : {M : Type 1} → statement M
kept_unless_spec =
    tie.close
    (tie.spec (λ c. search rules) (λ c. search rules) (λ c. search rules) (λ c. removed-one _ _ _ c.if-out.true) (λ c κs. search rules)
    (λ c. kept-one _ _ _ c.before.before.if-out.false c.push-more.ensures))
