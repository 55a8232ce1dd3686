use Rattle.std.proofs.Common.{List, ℕ, ◌+◌, arith}
use Rattle.tape.specs.Row.{row_of, Lists}
use Rattle.tape.specs.Listing.{rest-none}
use Rattle.tape.specs.Storing.{stored, ahead-later, ahead-stored, rest-ahead}
use Rattle.steps.proofs.Cutting.{leave-kept, leave-removed, leave-end}
use Rattle.steps.proofs.carrying.kept_of.Goals as goal
use Rattle.steps.proofs.carrying.kept_of.Goals.{then-kept-i, else-kept-i}

pub loop-i-preserved : goal.loop-i-preserved
loop-i-preserved c =
    let loop = c.loop-i in
    let ahead = ahead-later (loop.i + 1) loop.invariant.ahead (omega arith) in
    let next = λ (l : List ℕ) (h : Lists (row_of c.args.list.now c.args.n) l).
    rw (rest-ahead {i = loop.i} h (omega (arith, h.size)) loop.invariant.ahead) at (loop.invariant.left l h) in
    elim c.if-kept-i.branch [
      | then-kept-i w ↦ rw (w.list-is, w.count-is) (record {
        small = omega arith;
        ahead = ahead-stored loop.count _ ahead (omega arith);
        left = λ l h. leave-kept (next l h) w.if-kept-i.true _ (stored loop.list loop.count _ (omega arith));
      })
      | else-kept-i w ↦ rw (w.list-is, w.count-is) (record {
        small = omega arith;
        ahead = ahead;
        left = λ l h. leave-removed (next l h) w.if-kept-i.false;
      })
    ]

pub returns : goal.returns
returns c l h = leave-end (rw (rest-none l c.loop-i.i (omega (arith, h.size))) at (c.loop-i.invariant.left l h))
