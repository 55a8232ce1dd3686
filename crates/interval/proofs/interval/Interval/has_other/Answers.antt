use Rattle.std.proofs.Common.{sym, ◌∙◌}
use Rattle.rules.specs.Deduce.{has_other, at_zero}
use Rattle.interval.proofs.interval.Interval.has_other.Goals as goal

pub returns-then-below : goal.returns-then-below
unfolding has_other at_zero
returns-then-below c = simp (c.if-below.true, sym c.below.ensures ∙ c.if-below.true)

pub returns-else-below : goal.returns-else-below
unfolding has_other at_zero
returns-else-below c = simp (sym c.below.ensures ∙ c.if-below.false) c.below-else-below.ensures
