-- `passes` meets its contract, by the sign of the coefficient.
use borrow.Author.Rules.{rules}
use mathlib.Core.Path.{ap, ◌∙◌}
use Rattle.rules.specs.Signs.{SignSet, product, inside}
use Rattle.two_atoms.proofs.Ranges.{value-at}
use Rattle.two_atoms.proofs.range.passes.Statement.{statement}
use Rattle.two_atoms.proofs.range.passes.Tie as tie

returns : tie.Need-returns
returns c =
    let s = c.before.before.before.before in
    let value = value-at s.args.i s.ranges.x s.ranges.b c.before.before.before.factor.ensures c.before.before.sign_less-value.ensures
    in
    c.inside.ensures
    ∙ ap (λ (t : SignSet). inside t s.args.asked.0) (c.before.product.ensures ∙ ap (λ (t : SignSet). product t s.args.s) value)

pub passes_spec : {M : Type 1} → statement M
passes_spec =
    tie.close
    (tie.spec (λ c. search rules) (λ c κs. search rules) (λ c κs. search rules) (λ c κs. search rules) (λ c κs. search rules) returns)
