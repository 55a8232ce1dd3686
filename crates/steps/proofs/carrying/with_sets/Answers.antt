use Rattle.std.proofs.Common.{◌+◌, arith}
use Rattle.tape.specs.Listing.{rest-none}
use Rattle.tape.specs.Storing.{stored, counted, ahead-later, ahead-stored, rest-ahead}
use Rattle.steps.proofs.Cutting.{set-turn, set-end}
use Rattle.steps.proofs.carrying.with_sets.Goals as goal

pub loop-i-preserved : goal.loop-i-preserved
loop-i-preserved c =
    let loop = c.loop-i in
    record {
      ahead = ahead-stored loop.i _ (ahead-later (loop.i + 1) loop.invariant.ahead (omega arith)) (omega arith);
      left = λ l h.
          set-turn (rw (rest-ahead {i = loop.i} h (omega (arith, h.size)) loop.invariant.ahead) at (loop.invariant.left l h)) c.with_set.ensures
          (stored loop.list loop.i _ (omega arith));
    }

pub returns : goal.returns
returns c l h =
    let loop = c.loop-i in
    counted (set-end (rw (rest-none l loop.i (omega (arith, h.size))) at (loop.invariant.left l h))) (omega arith)
