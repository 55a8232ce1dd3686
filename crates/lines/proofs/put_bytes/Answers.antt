-- `put_bytes` meets its contract.
use Rattle.std.proofs.Common.{◌≡◌, refl, length, length-set, arith}
use Rattle.lines.specs.Written.{wrote_as}
use Rattle.lines.proofs.Runs.{copy_more, first-whole}
use Rattle.lines.proofs.put_bytes.Goals as goal

pub loop-i-init : goal.loop-i-init
loop-i-init c = (refl, record { stored = refl; behind = refl })

pub loop-i-preserved : goal.loop-i-preserved
loop-i-preserved c =
    let l = c.loop-i in
    (simp length-set l.invariant.0, copy_more c.args.bytes.now l.i (omega arith) l.invariant.1)

pub returns : goal.returns
returns c =
    let l = c.loop-i in
    let e : l.i ≡ length c.args.bytes.now = omega (arith, l.auto.i-end, c.loop-i-test.false) in
    rw e at (wrote_as l.invariant.1 (first-whole c.args.bytes.now l.i (omega arith) (omega (arith, l.auto.i-end))))
