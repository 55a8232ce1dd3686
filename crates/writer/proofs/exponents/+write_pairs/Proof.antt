-- `writer::exponents::write_pairs` meets its contract; it ends, since the variables that are left get fewer.
use mathlib.Core.Path.{◌∙◌}
use Prim.Native.Nat.{ℕ, ◌<◌}
use native.Mathlib.Omega.{arith}
use borrow.Fn.Kinds.{In}
use borrow.Fn.PlainCycle.{Measures, is, falls, and}
use Rattle.writer.proofs.Writing.{wrote-both, room-first, room-second, two_runs}
use Rattle.writer.proofs.WritingExponents.{none_written, pair-skipped, pair-split}
use Rattle.writer.proofs.exponents.write_pairs.Reads as write-pairs
use Rattle.writer.proofs.exponents.write_pairs.Kinds as write-pairs-kinds
use Rattle.writer.proofs.exponents.+write_pairs.Lts-write_pairs as write-pairs-lts
use Rattle.writer.proofs.exponents.exponent_of.Reads as exponent-of-reads
use Rattle.writer.proofs.write_field.Reads as write-field-reads
use Rattle.writer.proofs.exponents.+write_pairs.{statement}
use Rattle.writer.proofs.exponents.+write_pairs.Tie.{close}

abbrev μ-write-pairs : Measures 1 write-pairs-kinds.ps ℕ
μ-write-pairs κs a = a.1.1.1.0

abbrev write-pairs-at : ℕ → In 1 write-pairs-kinds.ps
write-pairs-at t = and 1 write-pairs-kinds.ps (is 1 write-pairs-kinds.ps μ-write-pairs t) write-pairs.Pre

abbrev write-pairs-below : ℕ → In 1 write-pairs-kinds.ps
write-pairs-below t = and 1 write-pairs-kinds.ps (falls 1 write-pairs-kinds.ps ◌<◌ μ-write-pairs t) write-pairs.Pre

pub +write_pairs_spec : {M : Type 1} → statement M
+write_pairs_spec = close μ-write-pairs λ t. write-pairs-lts.spec
    (exponent-of-reads.Asked, exponent-of-reads.Learnt, write-pairs-below t, write-pairs.Post, write-field-reads.Asked, write-field-reads.Learnt)
    (write-pairs-at t) write-pairs.Post
    (λ c. none_written _ _ _ c.if-k-eq0.true)
    (λ c. omega (arith, c.if-k-eq0.false))
    (λ c κs. let s = c.before.before in omega (arith, s.requires.1.0, s.requires.1.1, c.if-k-eq0.false))
    (λ c. omega (arith, c.if-k-eq0.false))
    (λ c κs.
    let exponent = c.before.before in
    let s = exponent.before.before.before in
    let a = s.args in (
      omega (arith, exponent.if-k-eq0.false),
      (
        s.requires.1.0,
        omega (arith, s.requires.1.1),
        rw (pair-skipped a.n a.k a.monomial exponent.if-k-eq0.false exponent.exponent_of-exponent.ensures c.if-exponent-eq0.true) at s.requires.1.2,
      ),
    ))
    (λ c. c.write_pairs.auto.out)
    (λ c.
    let others = c.before.before in
    let exponent = others.before.before.before in
    let a = exponent.args in
    rw (pair-skipped a.n a.k a.monomial exponent.if-k-eq0.false exponent.exponent_of-exponent.ensures others.if-exponent-eq0.true)
    others.write_pairs.ensures)
    (λ c. let s = c.before.before.before.before.before in s.requires.1.1)
    (λ c κs.
    let exponent = c.before.before in
    let s = exponent.before.before.before in
    (omega arith, room-first (pair-split _ _ _ exponent.if-k-eq0.false exponent.exponent_of-exponent.ensures c.if-exponent-eq0.false) s.requires.1.2))
    (λ c κs.
    let variable = c.before.before.before in
    let tested = variable.before.before in
    let exponent = tested.before in
    let s = exponent.before.before.before in (
      omega arith,
      room-first two_runs (room-second (pair-split _ _ _ exponent.if-k-eq0.false exponent.exponent_of-exponent.ensures tested.if-exponent-eq0.false) s.requires.1.2
          variable.write_field-variable.ensures variable.write_field-variable.auto.out),
    ))
    (λ c. omega (arith, c.if-k-eq0.false))
    (λ c κs.
    let next = c.before.before.before in
    let variable = next.before.before.before.before in
    let tested = variable.before.before in
    let exponent = tested.before in
    let s = exponent in (
      omega (arith, exponent.if-k-eq0.false),
      (
        s.requires.1.0,
        omega (arith, s.requires.1.1),
        room-second two_runs (room-second (pair-split _ _ _ exponent.if-k-eq0.false exponent.exponent_of-exponent.ensures tested.if-exponent-eq0.false) s.requires.1.2
            variable.write_field-variable.ensures variable.write_field-variable.auto.out)
            next.write_field-next.ensures next.write_field-next.auto.out,
      ),
    ))
    (λ c.
    let others = c.before.before in
    let next = others.before.before.before.before in
    let variable = next.before.before.before.before in
    others.write_pairs-2.auto.out ∙ next.write_field-next.auto.out ∙ variable.write_field-variable.auto.out)
    (λ c.
    let others = c in
    let next = others in
    let variable = next in
    let tested = variable in
    let exponent = tested in
    wrote-both (pair-split _ _ _ exponent.if-k-eq0.false exponent.exponent_of-exponent.ensures tested.if-exponent-eq0.false) variable.write_field-variable.ensures
    (wrote-both two_runs next.write_field-next.ensures others.write_pairs-2.ensures))
