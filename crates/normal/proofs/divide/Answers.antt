use Rattle.std.proofs.Common.{◌<◌, pos, get_or, length-set, sym, ◌∙◌, arith}
use lib.Signed.{quot_z}
use Rattle.normal.specs.Stores.{stores-step, stores-end}
use Rattle.normal.proofs.Numbers.{quotient_fits, quotient-back}
use Rattle.normal.proofs.divide.Goals as goal

pub overflow_cast-divisor : goal.overflow_cast-divisor
overflow_cast-divisor c = record { sfits = omega arith }

pub nonzero_div-target : goal.nonzero_div-target
nonzero_div-target c = (omega arith, quotient_fits (get_or c.args.coefficient.now c.loop-i.i (pos 0)) c.args.by c.c-1.given (omega arith))

pub loop-i-preserved : goal.loop-i-preserved
loop-i-preserved c =
    let l = c.loop-i in
    let a = c.args in
    let h : l.i < a.to = c.loop-i-test.true in
    record {
      as_long = simp length-set l.invariant.as_long;
      left = rw (quotient-back (get_or a.coefficient.now l.i (pos 0)) a.by c.c-1.given (omega arith))
          (sym (stores-step (pos 0) (λ i. i) (λ i y. quot_z (get_or a.coefficient.now i (pos 0)) (pos a.by)) l.target l.i a.to h) ∙ l.invariant.left);
    }

pub returns : goal.returns
returns c =
    let l = c.loop-i in
    let a = c.args in
    sym (stores-end (pos 0) (λ i. i) (λ i y. quot_z (get_or a.coefficient.now i (pos 0)) (pos a.by)) l.target l.i a.to c.loop-i-test.false) ∙ l.invariant.left
