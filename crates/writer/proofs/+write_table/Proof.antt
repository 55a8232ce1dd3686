-- `writer::write_table` meets its contract; it ends, since the polynomials that are left get fewer.
use mathlib.Core.Path.{◌∙◌}
use Prim.Native.Nat.{ℕ, ◌-◌, ◌<◌}
use native.Mathlib.Omega.{arith}
use borrow.Fn.Kinds.{In}
use borrow.Fn.PlainCycle.{Measures, is, falls, and}
use Rattle.writer.proofs.Writing.{wrote-both, room-first, room-second, table_none, table-split}
use Rattle.writer.proofs.write_table.Reads as table
use Rattle.writer.proofs.write_table.Kinds as table-kinds
use Rattle.writer.proofs.+write_table.Lts-write_table as table-lts
use Rattle.writer.proofs.write_polynomial.Reads as polynomial-reads
use Rattle.writer.proofs.+write_table.{statement}
use Rattle.writer.proofs.+write_table.Tie.{close}

abbrev μ-table : Measures 4 table-kinds.ps ℕ
μ-table κs a = a.1.1.1.1.1.1.1.1.0 - a.1.1.1.1.1.1.1.0

abbrev table_at : ℕ → In 4 table-kinds.ps
table_at t = and 4 table-kinds.ps (is 4 table-kinds.ps μ-table t) table.Pre

abbrev table_below : ℕ → In 4 table-kinds.ps
table_below t = and 4 table-kinds.ps (falls 4 table-kinds.ps ◌<◌ μ-table t) table.Pre

pub +write_table_spec : {M : Type 1} → statement M
+write_table_spec = close μ-table λ t. table-lts.spec (polynomial-reads.Asked, polynomial-reads.Learnt, table_below t, table.Post) (table_at t) table.Post
    (λ c. table_none _ _ _ _ _ _ _ c.if-i-m.true)
    (λ c κs.
    let s = c.before.before.before.before.before in
    let i : s.args.i < s.args.m = omega arith in (
      s.requires.1.0,
      omega arith,
      omega arith,
      s.requires.1.4.in_coefficients s.args.i i,
      s.requires.1.4.in_monomials s.args.i i,
      room-first (table-split _ _ _ _ _ _ _ s.requires.1.1 c.if-i-m.false) s.requires.1.5,
    ))
    (λ c. omega arith)
    (λ c κs.
    let first = c.before.before.before in
    let s = first in (
      omega arith,
      (
        s.requires.1.0,
        omega arith,
        s.requires.1.2,
        s.requires.1.3,
        s.requires.1.4,
        room-second (table-split _ _ _ _ _ _ _ s.requires.1.1 first.if-i-m.false) s.requires.1.5 first.write_polynomial-next.ensures
            first.write_polynomial-next.auto.out,
      ),
    ))
    (λ c. c.write_table.auto.out ∙ c.write_polynomial-next.auto.out)
    (λ c.
    let others = c in
    let first = others in
    wrote-both (table-split _ _ _ _ _ _ _ first.requires.1.1 first.if-i-m.false)
    first.write_polynomial-next.ensures others.write_table.ensures)
