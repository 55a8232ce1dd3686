-- `sign_terms` meets its contract: the masks that it makes are the board's.
use borrow.Author.Rules.{rules}
use Rattle.terms.proofs.sign_terms.Statement.{statement}
use Rattle.terms.proofs.sign_terms.Tie as tie

pub sign_terms_spec : {M : Type 1} → statement M
sign_terms_spec =
    tie.close
    (tie.spec (λ c κs. search rules) (λ c κs. search rules) (λ c. search rules) (λ c. c.before.before.sign_by.ensures _ c.before.before.before.before.masks_of.ensures))
