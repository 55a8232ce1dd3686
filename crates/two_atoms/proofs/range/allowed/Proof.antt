-- `allowed` meets its contract, by the signs of u and v.
use borrow.Author.Rules.{rules}
use mathlib.Core.Path.{sym, ◌∙◌}
use Rattle.interval.specs.Coefficients.{back}
use Rattle.two_atoms.proofs.Spares.{allowed-below, allowed-above, none_below, none_above, no-indices}
use Rattle.two_atoms.proofs.range.allowed.Statement.{statement}
use Rattle.two_atoms.proofs.range.allowed.Tie as tie

returns : tie.Need-returns-then-never_negative
returns c = rw c.before.before.before.if-mirrored.true (allowed-above c.before.before.before.before.before.non_positive-positive.ensures
    c.before.before.before.before.non_negative-negative.ensures c.halves.ensures)

returns-2 : tie.Need-returns-then-mirrored
returns-2 c =
    let s = c.before.before.before.before.before in
    rw c.before.before.if-mirrored.true (none_above no-indices (sym (rw (back s.ranges.u) at c.before.never_negative.ensures) ∙ c.if-never_negative.false))

returns-3 : tie.Need-returns-then-never_positive
returns-3 c = rw c.before.before.before.if-mirrored.false (allowed-below c.before.before.before.before.non_negative-negative.ensures
    c.before.before.before.before.before.non_positive-positive.ensures c.halves-then-never_positive.ensures)

returns-4 : tie.Need-returns
returns-4 c =
    let s = c.before.before.before.before.before in
    rw c.before.before.if-mirrored.false (none_below no-indices (sym (rw (back s.ranges.u) at c.before.never_positive.ensures) ∙ c.if-never_positive.false))

pub allowed_spec : {M : Type 1} → statement M
allowed_spec =
    tie.close
    (tie.spec (λ c κs. search rules) (λ c κs. search rules) (λ c κs. search rules) (λ c κs. search rules) returns returns-2 (λ c κs. search rules)
    (λ c κs. search rules)
    returns-3 returns-4)
