-- `forms_of` meets its contract: the working table, and the slots that are listed.
use borrow.Author.Rules.{rules}
use mathlib.Core.Path.{◌∙◌}
use native.Mathlib.Omega.{arith}
use Rattle.pool.specs.Reading.{blank-is, worked-room, worked-numbers, holds-forms}
use Rattle.pool.proofs.forms_of.Statement.{statement}
use Rattle.pool.proofs.forms_of.Tie as tie

work-requires : tie.Need-work-requires
work-requires c κs = (c.requires.0, blank-is c.requires.1)

listed-requires : tie.Need-listed-requires
listed-requires c κs =
    let a = c.args in
    let worked = c.work.ensures in (
      worked-room a.coefficient.now a.monomial.now a.terms.now a.polynomials a.variables c.requires.0.polynomials _ worked,
      worked-numbers a.coefficient.now a.monomial.now a.terms.now a.polynomials a.variables c.requires.0.polynomials _ worked (search rules),
      omega (arith, c.requires.1.slots),
    )

returns : tie.Need-returns
returns c =
    let a = c.args in
    holds-forms a.coefficient.now a.monomial.now a.terms.now a.polynomials a.variables c.requires.0.polynomials _
    c.work.ensures _ _ (c.listed.auto.order ∙ c.requires.1.slots) c.listed.ensures

pub forms_of_spec : {M : Type 1} → statement M
forms_of_spec =
    tie.close
    (tie.spec (λ c. search rules) (λ c. search rules) work-requires (λ c. search rules) listed-requires (λ c. search rules) (λ c. search rules)
    (λ c. search rules) (λ c. search rules) returns)
