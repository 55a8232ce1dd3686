-- `placardpan_simplify` meets its contract: the number and the output are those of what `simplify` answers.
use borrow.Author.Rules.{rules}
use mathlib.Core.Path.{◌∙◌}
use Rattle.lift.specs.Exported.{length-short, number-exported}
use Rattle.lift.proofs.exported.placardpan_simplify.Statement.{statement}
use Rattle.lift.proofs.exported.placardpan_simplify.Tie as tie

number-in-requires : tie.Need-number_in-requires
number-in-requires c κs = length-short c.simplify-given.ensures.0

returns : tie.Need-returns
returns c =
    let answers = c.simplify-given.ensures.0 in
    (c.number_in.ensures ∙ number-exported answers, answers.output)

pub placardpan_simplify_spec : {M : Type 1} → statement M
placardpan_simplify_spec = tie.close (tie.spec (λ c κs. search rules) number-in-requires (λ c. search rules) returns)
