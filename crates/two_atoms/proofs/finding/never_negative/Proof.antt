-- `never_negative` meets its contract, by the sign of the factor.
use borrow.Author.Rules.{rules}
use mathlib.Core.Path.{◌∙◌}
use Rattle.interval.specs.Coefficients.{back}
use Rattle.two_atoms.proofs.Findings.{negative-below, negative-from}
use Rattle.two_atoms.proofs.finding.never_negative.Statement.{statement}
use Rattle.two_atoms.proofs.finding.never_negative.Tie as tie

pub never_negative_spec : {M : Type 1} → statement M
never_negative_spec =
    tie.close
    (tie.spec (λ c κs. search rules) (λ c κs. search rules) (λ c. c.non_positive.ensures
    ∙ negative-below _ _ (rw (back c.before.before.ranges.u) at c.before.if-u-lt0.true))
    (λ c. c.non_negative.ensures ∙ negative-from _ _ (rw (back c.before.before.ranges.u) at c.before.if-u-lt0.false)))
