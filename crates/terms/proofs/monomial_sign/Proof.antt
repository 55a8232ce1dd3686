-- `monomial_sign` meets its contract, by the law of the masks.
use borrow.Author.Rules.{rules}
use mathlib.Core.Path.{◌∙◌}
use Rattle.terms.specs.SignByMasks.{sign-by-masks}
use Rattle.terms.proofs.monomial_sign.Statement.{statement}
use Rattle.terms.proofs.monomial_sign.Tie as tie

pub monomial_sign_spec : {M : Type 1} → statement M
monomial_sign_spec =
    tie.close
    (tie.spec (λ c κs. search rules) (λ c κs. search rules) (λ c. c.sign.ensures ∙ sign-by-masks c.before.masks_of.ensures _))
