-- `End::higher` meets its contract, by what `at_most` ensures.
use borrow.Author.Rules.{rules}
use mathlib.Core.Path.{sym, ◌∙◌}
use Rattle.interval.specs.Ends.{higher_end}
use Rattle.interval.proofs.interval.End.higher.Statement.{statement}
use Rattle.interval.proofs.interval.End.higher.Tie as tie

returns : tie.Need-returns-then-at_most
unfolding higher_end
returns c = simp (sym c.before.at_most.ensures ∙ c.if-at_most.true)

returns-2 : tie.Need-returns-else-at_most
unfolding higher_end
returns-2 c = simp (sym c.before.at_most.ensures ∙ c.if-at_most.false)

pub higher_spec : {M : Type 1} → statement M
higher_spec = tie.close (tie.spec (λ c κs. search rules) returns returns-2)
