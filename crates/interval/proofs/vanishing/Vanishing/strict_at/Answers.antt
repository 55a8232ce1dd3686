use Rattle.std.proofs.Common.{sym, ap, ◌∙◌, rules}
use mathlib.Core.Bool.{not}
use mir.Syntax.{w32}
use mir.Val.{SFits}
use Rattle.rules.specs.Deduce.{End, not_zero_at}
use Rattle.deduction_laws.specs.Fractions.{combined}
use Rattle.deduction_laws.specs.Exact.{is-zero, zero-everywhere}
use Rattle.deduction_laws.specs.Vanishing.{strict_where}
use Rattle.interval.specs.Coefficients.{back}
use Rattle.interval.proofs.vanishing.Vanishing.strict_at.Goals as goal

pub returns-then-self : goal.returns-then-self
unfolding strict_where
returns-then-self c f e = simp c.if-self.true

pub returns-then-not-both_zero : goal.returns-then-not-both_zero
unfolding strict_where not_zero_at
returns-then-not-both_zero c f e =
    let v = c.args.self in
    let a-fits : SFits w32 v.a = record { sfits = search rules } in
    let b-fits : SFits w32 v.b = record { sfits = search rules } in
    simp c.if-self.false (c.not_zero_at.ensures ∙ rw (back a-fits, back b-fits) (ap (λ (x : End). not_zero_at x v.a v.b) e))

pub returns-else-not-both_zero : goal.returns-else-not-both_zero
unfolding strict_where
returns-else-not-both_zero c f e =
    let v = c.args.self in
    let a-fits : SFits w32 v.a = record { sfits = search rules } in
    let b-fits : SFits w32 v.b = record { sfits = search rules } in
    let zero = zero-everywhere f v.a v.b (rw (back a-fits, back b-fits) at (sym c.both_zero.ensures ∙ c.if-not-both_zero.false)) in
    ap not c.if-not-both_zero.false ∙ simp (c.if-self.false, (is-zero (combined f v.a v.b)).1 zero)
