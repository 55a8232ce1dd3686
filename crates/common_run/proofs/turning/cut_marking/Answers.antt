-- `cut_marking` meets its contract: what is left of the atoms, and of those that are marked, goes on from the set so far, and so does who takes a sign out.
use Rattle.std.proofs.Common.{arith}
use Rattle.common_run.proofs.Cutting.{cutting-first, cutting-next}
use Rattle.common_run.proofs.Takings.{takings-first, takings-next, cut-marked}
use Rattle.common_run.proofs.turning.cut_marking.Goals as goal

pub loop-j-init : goal.loop-j-init
loop-j-init c = record { cuts = cutting-first _ _ _ _ _ _ _ _; takes = takings-first _ _ _ _ _ _ c.no_takers-takers.ensures }

pub loop-j-preserved : goal.loop-j-preserved
loop-j-preserved c = record {
  cuts = cutting-next c.loop-j.invariant.cuts c.loop-j-test.true c.cut_by-cut.ensures c.intersect-left.ensures c.marked-resting.ensures;
  takes = takings-next c.loop-j.invariant.takes c.cut_by-cut.ensures c.taken-takers.ensures;
}

pub returns : goal.returns
returns c =
    let (ready, (low, some)) = c.requires in
    cut-marked c.args.marks (ready.forms.each_variable c.args.i low) c.many-n.ensures c.loop-j.invariant.cuts c.loop-j.invariant.takes
    c.needed_marked-needed.ensures (omega arith) (omega arith)
