-- `writer::write_terms` meets its contract; it ends, since the count falls.
use mathlib.Core.Path.{◌∙◌}
use Prim.Native.Nat.{ℕ, ◌<◌}
use native.Mathlib.Omega.{arith}
use mir.Syntax.{w32}
use mir.ValLaws.{to_z-of_z}
use borrow.Author.Rules.{rules}
use borrow.Fn.Kinds.{In}
use borrow.Fn.PlainCycle.{Measures, is, falls, and}
use Rattle.writer.proofs.Writing.{wrote-both, room-first, room-second, terms-none, terms-split}
use Rattle.writer.proofs.write_terms.Reads as terms
use Rattle.writer.proofs.write_terms.Kinds as terms-kinds
use Rattle.writer.proofs.+write_terms.Lts-write_terms as terms-lts
use Rattle.writer.proofs.write_term.Reads as term-reads
use Rattle.writer.proofs.+write_terms.{statement}
use Rattle.writer.proofs.+write_terms.Tie.{close}

abbrev μ-terms : Measures 3 terms-kinds.ps ℕ
μ-terms κs a = a.1.1.1.1.1.1.1.0

abbrev terms-at : ℕ → In 3 terms-kinds.ps
terms-at t = and 3 terms-kinds.ps (is 3 terms-kinds.ps μ-terms t) terms.Pre

abbrev terms-below : ℕ → In 3 terms-kinds.ps
terms-below t = and 3 terms-kinds.ps (falls 3 terms-kinds.ps ◌<◌ μ-terms t) terms.Pre

pub +write_terms_spec : {M : Type 1} → statement M
+write_terms_spec = close μ-terms λ t. terms-lts.spec (term-reads.Asked, term-reads.Learnt, terms-below t, terms.Post) (terms-at t) terms.Post
    (λ c. terms-none _ _ _ _ _ _ c.if-count-eq0.true)
    (λ c. search rules) (λ c. omega arith) (λ c. search rules) (λ c. omega arith)
    (λ c κs.
    let value = c.before.before in
    let s = value.before.before.before.before in
    (s.requires.1.0, room-first (terms-split _ _ _ _ _ _ value.if-count-eq0.false (to_z-of_z w32 _ (record { sfits = value.value-1.given }))) s.requires.1.3))
    (λ c. omega arith) (λ c. omega arith)
    (λ c κs.
    let first = c.before.before.before in
    let value = first.before.before.before in
    let s = value in (
      omega arith,
      (
        s.requires.1.0,
        omega arith,
        omega arith,
        room-second (terms-split _ _ _ _ _ _ value.if-count-eq0.false (to_z-of_z w32 _ (record { sfits = value.value-1.given }))) s.requires.1.3
            first.write_term-next.ensures first.write_term-next.auto.out,
      ),
    ))
    (λ c. c.write_terms.auto.out ∙ c.write_term-next.auto.out)
    (λ c.
    let others = c in
    let first = others in
    let value = first in
    wrote-both (terms-split _ _ _ _ _ _ value.if-count-eq0.false (to_z-of_z w32 _ (record { sfits = value.value-1.given }))) first.write_term-next.ensures
    others.write_terms.ensures)
