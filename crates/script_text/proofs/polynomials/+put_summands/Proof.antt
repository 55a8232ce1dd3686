-- `put_summands` meets its contract; it ends, since the count falls.
use mathlib.Core.Path.{refl, ◌∙◌}
use Prim.Native.Nat.{ℕ, ◌<◌}
use native.Mathlib.Omega.{arith}
use mir.Syntax.{w32}
use mir.ValLaws.{to_z-of_z}
use borrow.Author.Rules.{rules}
use borrow.Fn.Kinds.{In}
use borrow.Fn.PlainCycle.{Measures, is, falls, and}
use Rattle.script_text.specs.Runs.{two_runs, fits-first, fits-second, wrote-split}
use Rattle.script_text.proofs.Texts.{summands-none, summands-more}
use Rattle.script_text.proofs.polynomials.put_summands.Reads as summands
use Rattle.script_text.proofs.polynomials.put_summands.Kinds as summands-kinds
use Rattle.script_text.proofs.polynomials.+put_summands.Lts-put_summands as summands-lts
use Rattle.script_text.proofs.runs.put_byte.Reads as byte-Reads
use Rattle.script_text.proofs.polynomials.put_term.Reads as term-reads
use Rattle.script_text.proofs.polynomials.+put_summands.{statement}
use Rattle.script_text.proofs.polynomials.+put_summands.Tie.{close}

abbrev μ-summands : Measures 3 summands-kinds.ps ℕ
μ-summands κs a = a.1.1.1.1.1.1.0

abbrev summands-at : ℕ → In 3 summands-kinds.ps
summands-at t = and 3 summands-kinds.ps (is 3 summands-kinds.ps μ-summands t) summands.Pre

abbrev summands-below : ℕ → In 3 summands-kinds.ps
summands-below t = and 3 summands-kinds.ps (falls 3 summands-kinds.ps ◌<◌ μ-summands t) summands.Pre

pub +put_summands_spec : {M : Type 1} → statement M
+put_summands_spec =
    close μ-summands λ t.
    summands-lts.spec (byte-Reads.Asked, byte-Reads.Learnt, term-reads.Asked, term-reads.Learnt, summands-below t, summands.Post) (summands-at t) summands.Post
    (λ c. summands-none _ _ _ _ _ c.if-count-eq0.true)
    (λ c κs. fits-first (summands-more _ _ _ _ _ c.if-count-eq0.false refl) c.requires.1.2)
    (λ c. search rules)
    (λ c. omega (arith, c.requires.1.1.coefficients, c.if-count-eq0.false))
    (λ c. search rules)
    (λ c. omega (arith, c.requires.1.1.monomials, c.if-count-eq0.false))
    (λ c κs. (
      c.requires.1.0,
      fits-first two_runs (fits-second (summands-more _ _ _ _ _ c.if-count-eq0.false (to_z-of_z w32 _ (record { sfits = c.value-1.given })))
          c.requires.1.2 c.put_byte-term.ensures),
    ))
    (λ c.
    record { fits = omega (arith, c.requires.1.1.coefficients, c.if-count-eq0.false, c.ranges.k) })
    (λ c. omega (arith, c.if-count-eq0.false))
    (λ c κs. (
      omega (arith, c.if-count-eq0.false),
      (
        c.requires.1.0,
        record {
          coefficients = omega (arith, c.requires.1.1.coefficients, c.if-count-eq0.false);
          monomials = omega (arith, c.requires.1.1.monomials, c.if-count-eq0.false);
        },
        fits-second two_runs (fits-second (summands-more _ _ _ _ _ c.if-count-eq0.false (to_z-of_z w32 _ (record { sfits = c.value-1.given })))
            c.requires.1.2 c.put_byte-term.ensures) c.put_term-next.ensures,
      ),
    ))
    (λ c.
    c.put_summands.auto.text ∙ c.put_term-next.auto.text ∙ c.put_byte-term.auto.text)
    (λ c.
    wrote-split (summands-more _ _ _ _ _ c.if-count-eq0.false (to_z-of_z w32 _ (record { sfits = c.value-1.given }))) c.put_byte-term.ensures
    (wrote-split two_runs c.put_term-next.ensures c.put_summands.ensures))
