use Rattle.std.proofs.Common.{◌<◌, pos, get_or, sym, ap, ◌∙◌, arith}
use Rattle.rules.specs.Polynomial.{or_one, content}
use Rattle.normal.proofs.Numbers.{bounded-back, at-least-one}
use Rattle.normal.proofs.Runs.{content-step, content-end}
use Rattle.normal.proofs.content.Goals as goal

pub loop-i-preserved : goal.loop-i-preserved
loop-i-preserved c =
    let l = c.loop-i in
    let x = get_or c.args.coefficient.now l.i (pos 0) in
    let h : l.i < c.args.to = c.loop-i-test.true in (
      omega arith,
      rw (c.gcd-common.ensures, c.unsigned_abs.ensures.value, bounded-back x (c.requires.magnitude l.i l.invariant.0 h))
          (sym (content-step c.args.coefficient.now l.common l.i c.args.to h) ∙ l.invariant.1),
    )

pub returns : goal.returns
unfolding content
returns c =
    let e = sym (content-end c.args.coefficient.now c.loop-i.common c.loop-i.i c.args.to c.loop-i-test.false) ∙ c.loop-i.invariant.1 in
    c.max.ensures ∙ at-least-one c.loop-i.common ∙ ap or_one e
