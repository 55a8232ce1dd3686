use mir.Syntax.{w32}
use mir.ValLaws.{to_z-of_z}
use Rattle.std.proofs.Common.{ℤ, ◌∙◌, refl, sym, ap, get_or}
use Rattle.std.proofs.Math.Option.{some}
use Rattle.arithmetic.specs.Checked.{kept_if, term_from, sum-again, sum-end}
use Rattle.arithmetic.specs.Numbers.{value_of, meaning}
use Rattle.arithmetic.proofs.value.Goals as goal

pub loop-i-init : goal.loop-i-init
unfolding meaning kept_if value_of
loop-i-init c = refl

pub loop-i-preserved : goal.loop-i-preserved
loop-i-preserved c =
    let readings = c.args.readings.now in
    let ms = c.args.monomial.now in
    let i = c.loop-i.i in
    sum-again readings c.args.coefficient.now ms i c.args.to (meaning c.loop-i.total) c.loop-i-test.true
    (c.term.ensures ∙ ap (λ (z : ℤ). term_from readings (get_or ms i 0) (some z)) (to_z-of_z w32 _ (record { sfits = c.c-1.given })))
    c.plus-total.ensures ∙ c.loop-i.invariant

pub returns : goal.returns
returns c =
    sym (sum-end c.args.readings.now c.args.coefficient.now c.args.monomial.now c.loop-i.i c.args.to _ c.loop-i-test.false) ∙ c.loop-i.invariant
