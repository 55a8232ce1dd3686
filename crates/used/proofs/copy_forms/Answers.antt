-- `used::copy_forms` meets its contract: what is left to copy, copied to the arrays as they stand, stays what was asked.
use Rattle.std.proofs.Common.{ℕ, ◌<◌, arith, get_or}
use Rattle.used.proofs.Copying.{copying-next, copied}
use Rattle.used.proofs.copy_forms.Goals as goal

pub loop-i-preserved : goal.loop-i-preserved
loop-i-preserved c n =
    let p = c.requires.0 in
    let slot : ℕ = get_or c.args.order.now c.loop-i.i 0 in
    let below : slot < 64 = c.requires.1.slots c.loop-i.i c.loop-i-test.true in
    copying-next (c.loop-i.invariant n) c.loop-i-test.true (omega (arith, below, p.few slot, p.coefficients)) (omega (arith, below, p.few slot, p.monomials))
    c.copy_run.ensures c.copy_run-in-loop-i.ensures

pub returns : goal.returns
returns c n = copied (c.loop-i.invariant n) c.loop-i-test.false
