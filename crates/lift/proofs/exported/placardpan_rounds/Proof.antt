-- `placardpan_rounds` meets its contract: the number, the output and the number of rounds are those of what `with_rounds` returns.
use borrow.Author.Rules.{rules}
use mathlib.Core.Path.{◌∙◌}
use Rattle.lift.specs.Exported.{length-short, number-exported}
use Rattle.lift.proofs.exported.placardpan_rounds.Statement.{statement}
use Rattle.lift.proofs.exported.placardpan_rounds.Tie as tie

number-in-requires : tie.Need-number_in-requires
number-in-requires c κs = length-short c.with_rounds-given.ensures.0.answers

returns : tie.Need-returns
returns c =
    let known = c.with_rounds-given.ensures.0 in
    (c.number_in.ensures ∙ number-exported known.answers, known.answers.output, known.rounds)

pub placardpan_rounds_spec : {M : Type 1} → statement M
placardpan_rounds_spec = tie.close (tie.spec (λ c κs. search rules) number-in-requires (λ c. search rules) returns)
