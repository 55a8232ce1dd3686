-- `placardpan_simplified` meets its contract: the length and the output are those of what `simplify` answers.
use borrow.Author.Rules.{rules}
use mathlib.Core.Path.{◌∙◌}
use Rattle.lift.specs.Part.{part_length}
use Rattle.lift.proofs.exported.placardpan_simplified.Statement.{statement}
use Rattle.lift.proofs.exported.placardpan_simplified.Tie as tie

returns : tie.Need-returns
returns c =
    let answers = c.simplify.ensures.0 in
    (c.length_in.ensures ∙ part_length answers, answers.output)

pub placardpan_simplified_spec : {M : Type 1} → statement M
placardpan_simplified_spec = tie.close (tie.spec (λ c κs. search rules) (λ c κs. search rules) (λ c. search rules) returns)
