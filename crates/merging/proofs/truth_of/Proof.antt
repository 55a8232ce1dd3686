use mathlib.Core.Path.{sym}
use borrow.Author.Rules.{rules}
use Rattle.merging.specs.Merged.{truth_if}
use Rattle.merging.proofs.truth_of.Statement.{statement}
use Rattle.merging.proofs.truth_of.Tie as tie

returns : tie.Need-returns-then-inside
unfolding truth_if
returns c = rw (sym c.before.before.set_of.ensures, sym c.before.inside.ensures, c.if-inside.true)

returns-2 : tie.Need-returns
unfolding truth_if
returns-2 c = rw (sym c.before.before.set_of.ensures, sym c.before.inside.ensures, c.if-inside.false)

pub truth_of_spec : {M : Type 1} → statement M
truth_of_spec = tie.close (tie.spec (λ c κs. search rules) (λ c κs. search rules) returns returns-2)
