-- `writer::write_parts` meets its contract; it ends, since the tokens that are left get fewer.
use mathlib.Core.Path.{◌∙◌}
use Prim.Native.Nat.{ℕ, ◌-◌, ◌<◌}
use native.Mathlib.Omega.{arith}
use lib.ListN.{length}
use borrow.Fn.Kinds.{In}
use borrow.Fn.PlainCycle.{Measures, is, falls, and}
use Rattle.writer.proofs.WritingTree.{first-there, room-atom, after-atom, kind_fits, room-join, inside-join, further, after-join, parts_none, parts-atom, parts_join}
use Rattle.writer.proofs.write_parts.Reads as parts
use Rattle.writer.proofs.write_parts.Kinds as parts-kinds
use Rattle.writer.proofs.+write_parts.Lts-write_parts as parts-lts
use Rattle.writer.proofs.write_atom.Reads as atom-reads
use Rattle.writer.proofs.write_join.Reads as join-reads
use Rattle.writer.proofs.+write_parts.{statement}
use Rattle.writer.proofs.+write_parts.Tie.{close}

abbrev μ-parts : Measures 2 parts-kinds.ps ℕ
μ-parts κs a = length a.1.0.now - a.1.1.1.0

abbrev parts_at : ℕ → In 2 parts-kinds.ps
parts_at t = and 2 parts-kinds.ps (is 2 parts-kinds.ps μ-parts t) parts.Pre

abbrev parts_below : ℕ → In 2 parts-kinds.ps
parts_below t = and 2 parts-kinds.ps (falls 2 parts-kinds.ps ◌<◌ μ-parts t) parts.Pre

pub +write_parts_spec : {M : Type 1} → statement M
+write_parts_spec =
    close μ-parts λ t. parts-lts.spec (atom-reads.Asked, atom-reads.Learnt, parts_below t, parts.Post, join-reads.Asked, join-reads.Learnt) (parts_at t) parts.Post
    (λ c. parts_none _ _ _ _ c.if-count-eq0.true)
    (λ c. omega (arith, first-there c.requires.1 c.if-count-eq0.false))
    (λ c. first-there c.requires.1 c.if-count-eq0.false)
    (λ c κs. let read = c.before.before in room-atom read.requires.1 read.if-count-eq0.false c.if-first-lt16777216.true)
    (λ c. let s = c.before.before.before.before.before.before.before.before.before.before in omega (
      arith,
      first-there s.requires.1
          c.if-count-eq0.false,
    ))
    (λ c. omega arith)
    (λ c κs.
    let first = c.before.before.before in
    let read = first.before.before.before in
    let s = read.before.before.before.before in (
      omega (arith, first-there s.requires.1 read.if-count-eq0.false),
      after-atom s.requires.1 read.if-count-eq0.false first.if-first-lt16777216.true first.write_atom-next.ensures first.write_atom-next.auto.out,
    ))
    (λ c. c.write_parts.auto.out ∙ c.write_atom-next.auto.out)
    (λ c.
    let others = c.before.before in
    let first = others.before.before.before.before in
    let read = first.before.before.before in
    parts-atom _ _ _ _ read.if-count-eq0.false first.if-first-lt16777216.true first.write_atom-next.ensures others.write_parts.ensures)
    (λ c. let read = c.before.before in omega (arith, read.shared_slice_known-2-1.given read.args.k))
    (λ c κs. let read = c.before.before in room-join read.requires.1 read.if-count-eq0.false c.if-first-lt16777216.false)
    (λ c. let s = c.before.before.before.before.before.before.before.before.before.before in omega (
      arith,
      first-there s.requires.1
          c.if-count-eq0.false,
    ))
    (λ c. let read = c.before.before.before.before.before.before in omega (
      arith,
      read.shared_slice_known-2-1.given
          read.args.k,
    ))
    (λ c. let read = c.before.before.before.before.before.before in kind_fits read.requires.1 read.if-count-eq0.false
    c.if-first-lt16777216.false)
    (λ c κs.
    let first = c.before.before.before in
    let read = first.before.before.before in
    let s = read.before.before.before.before in (
      omega (arith, first-there s.requires.1 read.if-count-eq0.false),
      inside-join s.requires.1 read.if-count-eq0.false first.if-first-lt16777216.false first.write_join-next.ensures first.write_join-next.auto.out,
    ))
    (λ c. omega arith)
    (λ c κs.
    let inner = c.before.before.before in
    let first = inner.before.before.before.before in
    let read = first.before.before.before in
    let s = read in (
      omega (
        arith,
        first-there s.requires.1 read.if-count-eq0.false,
        further s.requires.1 read.if-count-eq0.false first.if-first-lt16777216.false first.write_join-next.ensures inner.write_parts-inner.ensures,
      ),
      after-join s.requires.1 read.if-count-eq0.false first.if-first-lt16777216.false first.write_join-next.ensures inner.write_parts-inner.ensures
          (inner.write_parts-inner.auto.out ∙ first.write_join-next.auto.out),
    ))
    (λ c. c.write_parts-2.auto.out ∙ c.write_parts-inner.auto.out
    ∙ c.write_join-next.auto.out)
    (λ c.
    let others = c in
    let inner = others in
    let first = inner in
    let read = first in
    parts_join _ _ _ _ read.if-count-eq0.false first.if-first-lt16777216.false first.write_join-next.ensures inner.write_parts-inner.ensures
    others.write_parts-2.ensures)
