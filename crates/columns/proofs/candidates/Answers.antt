use Rattle.std.proofs.Common.{◌%◌, not, eqb, subst, arith}
use Rattle.masks.specs.declared.Mask.{Mask}
use Rattle.columns.specs.Columns.{LeftIf, candidates-either, candidates-all}
use Rattle.columns.proofs.candidates.Goals as goal

pub returns-then-set-ge8 : goal.returns-then-set-ge8
returns-then-set-ge8 c = candidates-all

pub returns : goal.returns
returns c =
    let a = c.args in
    candidates-either (omega arith) c.left_cutting.ensures
    (subst (λ (p : Mask). LeftIf a.columns.now (not (eqb (a.set % 4) 0)) p a.q1 a.set1 c.left_cutting-2.result) c.swapped.ensures c.left_cutting-2.ensures)
