-- `agreed` meets its contract.
use Rattle.std.proofs.Common.{sym, zero-add, add-zero, arith}
use Rattle.script_polynomial.proofs.Runs.{byte-agrees, byte-differs, text-ends, bytes-end}
use Rattle.script_polynomial.proofs.bytes.agreed.Goals as goal

pub loop-i-init : goal.loop-i-init
loop-i-init c = (omega arith, rw (add-zero c.args.at) (sym (zero-add _)))

pub returns-then-text-at : goal.returns-then-text-at
returns-then-text-at c =
    let l = c.loop-i in
    let a = c.args in
    omega (arith, l.invariant.1, text-ends a.text.now a.bytes.now a.at l.i (omega arith) (omega arith))

pub returns-then-text-at-2 : goal.returns-then-text-at-2
returns-then-text-at-2 c =
    let l = c.loop-i in
    let a = c.args in
    omega (arith, l.invariant.1, byte-differs a.text.now a.bytes.now a.at l.i (omega arith) (omega arith) c.if-text-at-2.true)

pub loop-i-preserved : goal.loop-i-preserved
loop-i-preserved c =
    let l = c.loop-i in
    let a = c.args in
    let next = byte-agrees a.text.now a.bytes.now a.at l.i (omega arith) (omega arith) c.if-text-at-2.false in
    (omega arith, omega (arith, l.invariant.1, next))

pub returns : goal.returns
returns c =
    let l = c.loop-i in
    let a = c.args in
    omega (arith, l.invariant.1, l.auto.i-end, c.loop-i-test.false, bytes-end a.text.now a.bytes.now a.at l.i (omega arith))
