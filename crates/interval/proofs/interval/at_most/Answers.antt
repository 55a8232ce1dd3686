use Rattle.std.proofs.Common.{sym}
use Rattle.rules.specs.Deduce.{end_at_most}
use Rattle.interval.specs.Coefficients.{back, is-zero, not_zero}
use Rattle.interval.proofs.Products.{product-back}
use Rattle.interval.proofs.Fractions.{by-cross, no_end, at-most-free}
use Rattle.interval.proofs.interval.at_most.Goals as goal
use Rattle.interval.proofs.interval.at_most.Goals.{then-b-eq0-via-then-b-eq0, then-b-eq0-via-else-b-eq0+then-d-eq0}

pub returns-then-b-eq0 : goal.returns-then-b-eq0
unfolding end_at_most
returns-then-b-eq0 c =
    let a = c.args in
    elim c.then-b-eq0.branch [
      | then-b-eq0-via-then-b-eq0 w ↦ rw (no_end a.a a.b (is-zero c.ranges.b w.if-b-eq0.true))
      | then-b-eq0-via-else-b-eq0+then-d-eq0 w ↦ rw (no_end a.c a.d (is-zero c.ranges.d w.if-d-eq0.true)) (sym (at-most-free _))
    ]

pub returns-then-d-lt0 : goal.returns-then-d-lt0
returns-then-d-lt0 c =
    let a = c.args in
    let f = c.ranges in
    rw (product-back f.a f.d c.cross-ad.ensures, product-back f.c f.b c.cross-cb.ensures)
    (by-cross a.a a.b a.c a.d (not_zero f.b c.if-b-eq0.false) (not_zero f.d c.if-d-eq0.false) (rw (back f.b) at c.if-b-lt0.true) (rw (back f.d) at c.if-d-lt0.true))

pub returns-else-d-lt0 : goal.returns-else-d-lt0
returns-else-d-lt0 c =
    let a = c.args in
    let f = c.ranges in
    rw (product-back f.a f.d c.cross-ad.ensures, product-back f.c f.b c.cross-cb.ensures)
    (by-cross a.a a.b a.c a.d (not_zero f.b c.if-b-eq0.false) (not_zero f.d c.if-d-eq0.false) (rw (back f.b) at c.if-b-lt0.true) (rw (back f.d) at c.if-d-lt0.false))

pub returns-then-d-lt0-2 : goal.returns-then-d-lt0-2
returns-then-d-lt0-2 c =
    let a = c.args in
    let f = c.ranges in
    rw (product-back f.a f.d c.cross-ad.ensures, product-back f.c f.b c.cross-cb.ensures)
    (by-cross a.a a.b a.c a.d (not_zero f.b c.if-b-eq0.false) (not_zero f.d c.if-d-eq0.false) (rw (back f.b) at c.if-b-lt0.false) (rw (back f.d) at c.if-d-lt0-2.true))

pub returns-else-d-lt0-2 : goal.returns-else-d-lt0-2
returns-else-d-lt0-2 c =
    let a = c.args in
    let f = c.ranges in
    rw (product-back f.a f.d c.cross-ad.ensures, product-back f.c f.b c.cross-cb.ensures)
    (by-cross a.a a.b a.c a.d (not_zero f.b c.if-b-eq0.false) (not_zero f.d c.if-d-eq0.false) (rw (back f.b) at c.if-b-lt0.false) (rw (back f.d) at c.if-d-lt0-2.false))
