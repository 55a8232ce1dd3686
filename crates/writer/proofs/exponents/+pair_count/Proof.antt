-- `writer::exponents::pair_count` meets its contract; it ends, since the variables that are left get fewer.
use mathlib.Core.Path.{sym, ap, ◌∙◌}
use Prim.Native.Nat.{ℕ, ◌+◌, ◌<◌}
use native.Mathlib.Omega.{arith}
use lib.ListN.{length}
use borrow.Fn.Kinds.{In}
use borrow.Fn.PlainCycle.{Measures, is, falls, and}
use Rattle.writer.proofs.WritingExponents.{no_pairs, pair-skipped, pair-counted}
use Rattle.writer.proofs.exponents.pair_count.Reads as pair-count
use Rattle.writer.proofs.exponents.pair_count.Kinds as pair-count-kinds
use Rattle.writer.proofs.exponents.+pair_count.Lts-pair_count as pair-count-lts
use Rattle.writer.proofs.exponents.exponent_of.Reads as exponent-of-reads
use Rattle.writer.proofs.exponents.+pair_count.{statement}
use Rattle.writer.proofs.exponents.+pair_count.Tie.{close}

abbrev μ-pair-count : Measures 0 pair-count-kinds.ps ℕ
μ-pair-count κs a = a.0

abbrev pair-count-at : ℕ → In 0 pair-count-kinds.ps
pair-count-at t = and 0 pair-count-kinds.ps (is 0 pair-count-kinds.ps μ-pair-count t) pair-count.Pre

abbrev pair-count-below : ℕ → In 0 pair-count-kinds.ps
pair-count-below t = and 0 pair-count-kinds.ps (falls 0 pair-count-kinds.ps ◌<◌ μ-pair-count t) pair-count.Pre

pub +pair_count_spec : {M : Type 1} → statement M
+pair_count_spec = close μ-pair-count λ t. pair-count-lts.spec (pair-count-below t, pair-count.Post, exponent-of-reads.Asked, exponent-of-reads.Learnt)
    (pair-count-at t) pair-count.Post
    (λ c. let a = c.args in (λ n. sym (ap length (no_pairs n a.k a.monomial c.if-k-eq0.true)), omega arith))
    (λ c. omega (arith, c.if-k-eq0.false))
    (λ c κs. (omega (arith, c.if-k-eq0.false), omega (arith, c.requires.1)))
    (λ c. omega (arith, c.if-k-eq0.false))
    (λ c κs. omega (arith, c.requires.1, c.if-k-eq0.false))
    (λ c.
    let others = c.before.before in
    let a = others.args in (
      λ n. others.pair_count-others.ensures.0 n
          ∙ sym (ap length (pair-skipped n a.k a.monomial others.if-k-eq0.false c.exponent_of.ensures c.if-exponent_of-eq0.true)),
      omega (arith, others.pair_count-others.ensures.1),
    ))
    (λ c. let others = c.before.before in omega (arith, others.pair_count-others.ensures.1, others.requires.1))
    (λ c.
    let others = c in
    let a = others.args in (
      λ n. ap (λ (k : ℕ). k + 1) (others.pair_count-others.ensures.0 n)
          ∙ sym (pair-counted n a.k a.monomial others.if-k-eq0.false c.exponent_of.ensures c.if-exponent_of-eq0.false),
      omega (arith, others.pair_count-others.ensures.1, others.if-k-eq0.false),
    ))
