use Rattle.std.proofs.Common.{ℕ, ◌+◌, ◌-◌, ◌*◌, ◌∙◌, List, sym, ap, length}
use Rattle.pool.specs.Words.{all_unlisted}
use Rattle.pool.specs.Calls.{unlisted-length}
use Rattle.pool.proofs.Walks.{unlist-step, unlist-end}
use Rattle.pool.proofs.unlist_all.Goals as goal

pub loop-slot-preserved : goal.loop-slot-preserved
loop-slot-preserved c =
    let l = c.loop-slot in
    let number = c.args.number in
    let is = c.unlist.ensures in
    record {
      as_long = ap length is ∙ unlisted-length number l.pool (2 + 34 * l.slot) ∙ l.invariant.as_long;
      left = ap (λ (w : List ℕ). all_unlisted number w (l.slot + 1) (128 - (l.slot + 1))) is ∙ unlist-step number l.pool l.slot c.loop-slot-test.true
          ∙ l.invariant.left;
    }

pub returns : goal.returns
returns c =
    let l = c.loop-slot in
    sym (unlist-end c.args.number l.pool l.slot c.loop-slot-test.false) ∙ l.invariant.left
