use Rattle.std.proofs.Common.{◌≡◌, length, arith}
use Rattle.script_back.proofs.Positions.{sofar-none, run_ends, run-differs, run-goes-on, run-stands}
use Rattle.script_back.proofs.runs.said.Goals as goal

pub loop-i-init : goal.loop-i-init
loop-i-init c = sofar-none _ _ _ c.requires

pub returns-then-text-at : goal.returns-then-text-at
returns-then-text-at c = run_ends c.loop-i.invariant c.loop-i-test.true c.if-text-at.true

pub returns-then-text-at-2 : goal.returns-then-text-at-2
returns-then-text-at-2 c = run-differs c.loop-i.invariant c.loop-i-test.true c.if-text-at.false c.if-text-at-2.true

pub loop-i-preserved : goal.loop-i-preserved
loop-i-preserved c = run-goes-on c.loop-i.invariant c.loop-i-test.true c.if-text-at.false c.if-text-at-2.false

pub returns : goal.returns
returns c =
    let e : c.loop-i.i ≡ length c.args.bytes.now = omega (arith, c.loop-i.auto.i-end, c.loop-i-test.false) in
    rw e at (run-stands c.loop-i.invariant c.loop-i-test.false)
