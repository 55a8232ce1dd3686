use mir.Syntax.{w32}
use mir.ValLaws.{to_z-of_z}
use Rattle.std.proofs.Common.{◌<◌, ◌≤◌, ◌∙◌, sym}
use Rattle.terms.proofs.Places.{by-signs-step, by-signs-end}
use Rattle.terms.proofs.by_terms.Goals as goal

pub loop-i-preserved : goal.loop-i-preserved
loop-i-preserved c =
    let h : c.loop-i.i < c.args.to = c.loop-i-test.true in
    rw (c.sum-sofar.ensures, c.product.ensures, c.sign_of.ensures, to_z-of_z w32 _ (record { sfits = c.c-1.given }))
    (sym (by-signs-step _ _ _ _ _ h) ∙ c.loop-i.invariant)

pub returns : goal.returns
returns c =
    let h : c.args.to ≤ c.loop-i.i = c.loop-i-test.false in
    sym (by-signs-end _ _ _ _ _ h) ∙ c.loop-i.invariant
