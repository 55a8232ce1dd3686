use Rattle.std.proofs.Common.{◌≡◌, ◌+◌, ◌-◌, ◌∙◌, sym, arith}
use Rattle.arithmetic.specs.Checked.{raised-next, raised-end}
use Rattle.arithmetic.specs.Numbers.{meaning}
use Rattle.arithmetic.proofs.power.Goals as goal

pub loop-preserved : goal.loop-preserved
loop-preserved c =
    let less : c.args.exponent - (c.loop.counter + 1) ≡ c.args.exponent - c.loop.counter - 1 = omega arith in
    rw (c.times-product.ensures, less)
    (sym (raised-next _ (c.args.exponent - c.loop.counter) (meaning c.loop.product) (omega (arith, c.loop-test.true))) ∙ c.loop.invariant)

pub returns : goal.returns
returns c = sym (raised-end _ (c.args.exponent - c.loop.counter) _ (omega (arith, c.loop-test.false))) ∙ c.loop.invariant
