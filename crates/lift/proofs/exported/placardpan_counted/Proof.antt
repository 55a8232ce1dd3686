-- `placardpan_counted` meets its contract: the number, the output and the counts are those of what `simplify` answers.
use borrow.Author.Rules.{rules}
use mathlib.Core.Path.{ap, ◌∙◌}
use Rattle.answer.specs.declared.Counts.{Counts}
use Rattle.answer.specs.Answered.{counts_of}
use Rattle.lift.specs.Exported.{length-short, number-exported, counts-counted}
use Rattle.lift.proofs.exported.placardpan_counted.Statement.{statement}
use Rattle.lift.proofs.exported.placardpan_counted.Tie as tie

number-in-requires : tie.Need-number_in-requires
number-in-requires c κs = length-short c.simplify-given.ensures.0

returns : tie.Need-returns
unfolding counts_of
returns c =
    let answers = c.simplify-given.ensures.0 in
    let counts = c.counts_or_zero-counts.ensures ∙ counts-counted answers in (
      c.number_in.ensures ∙ number-exported answers,
      answers.output,
      ap (λ (k : Counts). k.atoms_in) counts,
      ap (λ (k : Counts). k.atoms_out) counts,
      ap (λ (k : Counts). k.polynomials_in) counts,
      ap (λ (k : Counts). k.polynomials_out) counts,
    )

pub placardpan_counted_spec : {M : Type 1} → statement M
placardpan_counted_spec = tie.close (tie.spec (λ c κs. search rules) (λ c κs. search rules) number-in-requires (λ c. search rules) returns)
