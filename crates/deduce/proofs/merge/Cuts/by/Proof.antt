-- `Cuts::by` meets its contract: L and U are cut as the sign set says, each from what its method ensures.
use borrow.Author.Rules.{rules}
use Rattle.interval.specs.Ends.{interval_of}
use Rattle.interval.specs.Coefficients.{back}
use Rattle.deduce.specs.Merge.{gather_row}
use Rattle.deduce.proofs.SignSets.{cut-positive, cut-negative, cut-none, cut-both}
use Rattle.deduce.proofs.merge.Cuts.by.Statement.{statement}
use Rattle.deduce.proofs.merge.Cuts.by.Tie as tie

returns : tie.Need-returns-in-1
unfolding gather_row
returns c =
    let s = c in
    let f = s.ranges in
    let a = s.args in
    let k = c.in-1.is in
    rw (c.cut_not_negative-l.ensures, c.cut_not_positive-u.ensures, c.by-vanishing.ensures)
    (simp (back f.a, back f.b, (cut-positive a.s a.a a.b (interval_of a.self.l) k).0, (cut-positive a.s a.a a.b (interval_of a.self.u) k).1))

returns-2 : tie.Need-returns-in-4
unfolding gather_row
returns-2 c =
    let s = c in
    let f = s.ranges in
    let a = s.args in
    let k = c.in-4.is in
    rw (c.cut_not_positive-l.ensures, c.cut_not_negative-u.ensures, c.by-vanishing.ensures)
    (simp (back f.a, back f.b, (cut-negative a.s a.a a.b (interval_of a.self.l) k).0, (cut-negative a.s a.a a.b (interval_of a.self.u) k).1))

returns-3 : tie.Need-returns-in-0
unfolding gather_row
returns-3 c =
    let s = c in
    let f = s.ranges in
    let a = s.args in
    let k = c.in-0.is in
    rw c.by-vanishing.ensures
    (simp (back f.a, back f.b, (cut-none a.s a.a a.b (interval_of a.self.l) k).0, (cut-none a.s a.a a.b (interval_of a.self.u) k).1))

returns-4 : tie.Need-returns-in_default
unfolding gather_row
returns-4 c =
    let s = c in
    let f = s.ranges in
    let a = s.args in
    let m = c.in_default.in_default-own.rest in
    rw (
      c.cut_not_negative-l-in_default.ensures,
      c.cut_not_negative-u-in_default.ensures,
      c.cut_not_positive.ensures,
      c.cut_not_positive-in_default.ensures,
      c.by-vanishing.ensures,
    )
    (simp (
      back f.a,
      back f.b,
      (cut-both a.a a.b (interval_of a.self.l) a.s m.0.0.1 m.0.1 m.1).0,
      (cut-both a.a a.b (interval_of a.self.u) a.s m.0.0.1 m.0.1 m.1).1,
    ))

pub by_spec : {M : Type 1} → statement M
by_spec =
    tie.close
    (tie.spec (λ c κs. search rules) (λ c κs. search rules) (λ c κs. search rules) (λ c κs. search rules) (λ c κs. search rules)
    (λ c κs. search rules) (λ c κs. search rules) (λ c κs. search rules) (λ c κs. search rules) returns returns-2 returns-3 returns-4)
