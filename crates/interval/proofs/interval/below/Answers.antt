use Rattle.std.proofs.Common.{sym}
use Rattle.rules.specs.Deduce.{end_below}
use Rattle.interval.specs.Coefficients.{back, is-zero, not_zero}
use Rattle.interval.proofs.Fractions.{no_end, below_free, below_other}
use Rattle.interval.proofs.interval.below.Goals as goal
use Rattle.interval.proofs.interval.below.Goals.{then-b-eq0-via-then-b-eq0, then-b-eq0-via-else-b-eq0+then-d-eq0}

pub returns-then-b-eq0 : goal.returns-then-b-eq0
unfolding end_below
returns-then-b-eq0 c =
    let a = c.args in
    elim c.then-b-eq0.branch [
      | then-b-eq0-via-then-b-eq0 w ↦ rw (no_end a.a a.b (is-zero c.ranges.b w.if-b-eq0.true))
      | then-b-eq0-via-else-b-eq0+then-d-eq0 w ↦ rw (no_end a.c a.d (is-zero c.ranges.d w.if-d-eq0.true)) (sym (below_free _))
    ]

pub returns : goal.returns
returns c =
    let a = c.args in
    let f = c.ranges in
    rw (c.at_most.ensures, back f.c, back f.d, back f.a, back f.b)
    (sym (below_other a.a a.b a.c a.d (not_zero f.b c.if-b-eq0.false) (not_zero f.d c.if-d-eq0.false)))
