use Rattle.std.proofs.Common.{Bool, subst}
use Rattle.rules.specs.Signs.{SignSet, kind}
use Rattle.rules.specs.TwoAtoms.{non_negative}
use Rattle.masks.specs.declared.Mask.{Mask}
use Rattle.masks.specs.Masks.{some_both}
use Rattle.columns.specs.Columns.{LeftWith, left-under, left-none, left_both}
use Rattle.columns.proofs.left_cutting.Goals as goal

pub returns-then-not-cuts : goal.returns-then-not-cuts
returns-then-not-cuts c =
    let a = c.args in
    left-none (λ (q2 : Mask) (set2 : SignSet). some_both a.p a.q1 (kind a.set1) q2 (kind set2)) c.if-not-cuts.true

pub returns : goal.returns
returns c =
    let a = c.args in
    let cs = a.columns.now in
    let above = subst (λ (x : Bool). LeftWith cs x a.p a.q1 c.left_with.result) c.non_positive.ensures c.left_with.ensures in
    let below = subst (λ (x : Bool). LeftWith cs x a.p c.swapped.result c.left_with-2.result) c.non_negative.ensures c.left_with-2.ensures in
    left-under a.cuts (left_both cs a.p a.q1 a.set1 above
    (subst (λ (q : Mask). LeftWith cs (non_negative (kind a.set1)) a.p q c.left_with-2.result) c.swapped.ensures below))
