-- `Masks::sign` meets its contract: the five questions, asked as they are written there.
use borrow.Author.Rules.{rules}
use Rattle.terms.specs.Masks.{sign_by}
use Rattle.terms.proofs.masks.Masks.sign.Statement.{statement}
use Rattle.terms.proofs.masks.Masks.sign.Tie as tie

returns : tie.Need-returns
unfolding sign_by
returns c =
    rw (
      c.product_of.ensures,
      c.before.meets_odd.ensures,
      c.before.before.meets-2.ensures,
      c.before.before.before.before.meets.ensures,
      c.before.before.before.before.before.lacks-2.ensures,
      c.before.before.before.before.before.before.lacks.ensures,
    )

pub sign_spec : {M : Type 1} → statement M
sign_spec =
    tie.close
    (tie.spec (λ c κs. search rules) (λ c κs. search rules) (λ c κs. search rules) (λ c κs. search rules) (λ c κs. search rules) (λ c κs. search rules) returns)
