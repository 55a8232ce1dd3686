-- `put_factors` meets its contract; it ends, since the count falls.
use mathlib.Core.Path.{◌∙◌}
use Prim.Native.Nat.{ℕ, ◌<◌}
use native.Mathlib.Omega.{arith}
use borrow.Fn.Kinds.{In}
use borrow.Fn.PlainCycle.{Measures, is, falls, and}
use Rattle.script_text.specs.Runs.{fits-first, fits-second, wrote-split}
use Rattle.script_text.proofs.Texts.{factors-none, factors-more}
use Rattle.script_text.proofs.polynomials.put_factors.Reads as factors
use Rattle.script_text.proofs.polynomials.put_factors.Kinds as factors-kinds
use Rattle.script_text.proofs.polynomials.+put_factors.Lts-put_factors as factors-lts
use Rattle.script_text.proofs.runs.put_power.Reads as power-reads
use Rattle.script_text.proofs.polynomials.+put_factors.{statement}
use Rattle.script_text.proofs.polynomials.+put_factors.Tie.{close}

abbrev μ-factors : Measures 1 factors-kinds.ps ℕ
μ-factors κs a = a.1.1.1.0

abbrev factors-at : ℕ → In 1 factors-kinds.ps
factors-at t = and 1 factors-kinds.ps (is 1 factors-kinds.ps μ-factors t) factors.Pre

abbrev factors-below : ℕ → In 1 factors-kinds.ps
factors-below t = and 1 factors-kinds.ps (falls 1 factors-kinds.ps ◌<◌ μ-factors t) factors.Pre

pub +put_factors_spec : {M : Type 1} → statement M
+put_factors_spec = close μ-factors λ t. factors-lts.spec (power-reads.Asked, power-reads.Learnt, factors-below t, factors.Post) (factors-at t) factors.Post
    (λ c. factors-none _ _ _ c.if-count-eq0.true)
    (λ c. omega (arith, c.if-count-eq0.false))
    (λ c. record { fits = omega (arith, c.requires.1.0) })
    (λ c. omega (arith, c.requires.1.0))
    (λ c κs. (
      omega (arith, c.requires.1.0, c.if-count-eq0.false),
      fits-first (factors-more _ _ _ c.if-count-eq0.false) c.requires.1.1,
    ))
    (λ c. record { fits = omega (arith, c.requires.1.0) })
    (λ c. omega (arith, c.if-count-eq0.false))
    (λ c κs. (
      omega (arith, c.if-count-eq0.false),
      (
        omega (arith, c.requires.1.0, c.if-count-eq0.false),
        fits-second (factors-more _ _ _ c.if-count-eq0.false) c.requires.1.1 c.put_power-next.ensures,
      ),
    ))
    (λ c. c.put_factors.auto.text ∙ c.put_power-next.auto.text)
    (λ c.
    wrote-split (factors-more _ _ _ c.if-count-eq0.false) c.put_power-next.ensures c.put_factors.ensures)
