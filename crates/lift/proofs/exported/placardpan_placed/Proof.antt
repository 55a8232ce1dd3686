-- `placardpan_placed` meets its contract: the number, the output and the places are those of what `placed` answers.
use borrow.Author.Rules.{rules}
use mathlib.Core.Path.{◌∙◌}
use Rattle.lift.specs.Exported.{placed-length-short, placed-number}
use Rattle.lift.proofs.exported.placardpan_placed.Statement.{statement}
use Rattle.lift.proofs.exported.placardpan_placed.Tie as tie

number-in-requires : tie.Need-number_in-requires
number-in-requires c κs = placed-length-short c.placed-given.ensures.0

returns : tie.Need-returns
returns c =
    let answers = c.placed-given.ensures.0 in
    (c.number_in.ensures ∙ placed-number answers, answers.output, answers.places)

pub placardpan_placed_spec : {M : Type 1} → statement M
placardpan_placed_spec = tie.close (tie.spec (λ c κs. search rules) number-in-requires (λ c. search rules) (λ c. search rules) returns)
