use Rattle.std.proofs.Common.{◌<◌, ◌^◌, pos, neg_ℤ, nat_abs, get_or, length-set, sym, ◌∙◌, arith}
use Rattle.normal.specs.Stores.{stores-step, stores-end}
use Rattle.normal.proofs.Numbers.{minus-fits, minus-back}
use Rattle.normal.proofs.Runs.{bounded-after}
use Rattle.normal.proofs.negate.Goals as goal

small : (c : goal.After-c-1) → nat_abs (get_or c.loop-i.coefficient c.loop-i.i (pos 0)) < 2 ^ 31
small c = c.loop-i.invariant.within.magnitude c.loop-i.i (omega arith) (omega arith)

pub overflow_sub-coefficient : goal.overflow_sub-coefficient
overflow_sub-coefficient c = minus-fits (get_or c.loop-i.coefficient c.loop-i.i (pos 0)) (small c)

pub loop-i-preserved : goal.loop-i-preserved
loop-i-preserved c =
    let l = c.loop-i in
    let h : l.i < c.args.to = c.loop-i-test.true in
    record {
      as_long = simp length-set l.invariant.as_long;
      within = bounded-after l.coefficient l.i c.args.to _ l.invariant.within;
      left = rw (minus-back (get_or l.coefficient l.i (pos 0)) (small c))
          (sym (stores-step (pos 0) (λ i. i) (λ i y. neg_ℤ y) l.coefficient l.i c.args.to h) ∙ l.invariant.left);
    }

pub returns : goal.returns
returns c =
    let l = c.loop-i in
    sym (stores-end (pos 0) (λ i. i) (λ i y. neg_ℤ y) l.coefficient l.i c.args.to c.loop-i-test.false) ∙ l.invariant.left
