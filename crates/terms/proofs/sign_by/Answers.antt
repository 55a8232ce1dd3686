use Rattle.std.proofs.Common.{◌<◌, ◌≤◌, ◌∙◌, sym, length-set}
use Rattle.terms.specs.SignByMasks.{sign-by-masks}
use Rattle.terms.proofs.Places.{signed-step, signed-end}
use Rattle.terms.proofs.sign_by.Goals as goal

pub loop-i-preserved : goal.loop-i-preserved
loop-i-preserved c =
    let h : c.loop-i.i < c.args.to = c.loop-i-test.true in
    record {
      as_long = simp length-set c.loop-i.invariant.as_long;
      left = λ board of. rw (c.sign.ensures ∙ sign-by-masks of _) (sym (signed-step _ _ _ _ _ h) ∙ c.loop-i.invariant.left board of);
    }

pub returns : goal.returns
returns c =
    let h : c.args.to ≤ c.loop-i.i = c.loop-i-test.false in
    λ board of. sym (signed-end _ _ _ _ _ h) ∙ c.loop-i.invariant.left board of
