use mir.Syntax.{w32}
use mir.ValLaws.{to_z-of_z}
use Rattle.std.proofs.Common.{◌∙◌, sym, ap}
use Rattle.std.proofs.Math.Option.{some}
use Rattle.arithmetic.specs.Checked.{term_from, term-again, term-end}
use Rattle.arithmetic.specs.Numbers.{meant}
use Rattle.arithmetic.proofs.term.Goals as goal

pub loop-i-preserved : goal.loop-i-preserved
loop-i-preserved c =
    let x = meant c.whole-reading.result _ c.whole-reading.ensures ∙ to_z-of_z w32 _ (record { sfits = c.x-1.given }) in
    term-again c.args.readings.now c.loop-i.i c.args.monomial _ _ c.loop-i-test.true x c.power-product.ensures ∙ c.loop-i.invariant

pub returns : goal.returns
returns c =
    let first = c.whole-product.ensures ∙ ap some (to_z-of_z w32 c.args.coefficient c.ranges.coefficient) in
    sym (term-end c.args.readings.now c.loop-i.i _ _ c.loop-i-test.false) ∙ c.loop-i.invariant ∙ ap (term_from _ _) first
