-- `put_power` meets its contract; it ends, since the exponent falls.
use mathlib.Core.Path.{◌∙◌}
use Prim.Native.Nat.{ℕ, ◌<◌}
use native.Mathlib.Omega.{arith}
use borrow.Fn.Kinds.{In}
use borrow.Fn.PlainCycle.{Measures, is, falls, and}
use Rattle.script_text.specs.Runs.{two_runs, fits-first, fits-second, wrote-split}
use Rattle.script_text.proofs.Texts.{power-none, power-more}
use Rattle.script_text.proofs.runs.put_power.Reads as power
use Rattle.script_text.proofs.runs.put_power.Kinds as power-kinds
use Rattle.script_text.proofs.runs.+put_power.Lts-put_power as power-lts
use Rattle.script_text.proofs.runs.put_byte.Reads as byte-Reads
use Rattle.script_text.proofs.runs.+put_power.{statement}
use Rattle.script_text.proofs.runs.+put_power.Tie.{close}

abbrev μ-power : Measures 1 power-kinds.ps ℕ
μ-power κs a = a.1.1.1.0

abbrev power_at : ℕ → In 1 power-kinds.ps
power_at t = and 1 power-kinds.ps (is 1 power-kinds.ps μ-power t) power.Pre

abbrev power_below : ℕ → In 1 power-kinds.ps
power_below t = and 1 power-kinds.ps (falls 1 power-kinds.ps ◌<◌ μ-power t) power.Pre

pub +put_power_spec : {M : Type 1} → statement M
+put_power_spec = close μ-power λ t. power-lts.spec (byte-Reads.Asked, byte-Reads.Learnt, power_below t, power.Post) (power_at t) power.Post
    (λ c. power-none _ _ c.if-exponent-eq0.true)
    (λ c κs. fits-first (power-more _ _ c.if-exponent-eq0.false) c.requires.1.1)
    (λ c. record { fits = omega (arith, c.requires.1.0) })
    (λ c κs.
    fits-first two_runs (fits-second (power-more _ _ c.if-exponent-eq0.false) c.requires.1.1 c.put_byte-letter.ensures))
    (λ c. omega (arith, c.if-exponent-eq0.false))
    (λ c κs. (
      omega (arith, c.if-exponent-eq0.false),
      (
        c.requires.1.0,
        fits-second two_runs (fits-second (power-more _ _ c.if-exponent-eq0.false) c.requires.1.1 c.put_byte-letter.ensures) c.put_byte-next.ensures,
      ),
    ))
    (λ c.
    c.put_power.auto.text ∙ c.put_byte-next.auto.text ∙ c.put_byte-letter.auto.text)
    (λ c.
    wrote-split (power-more _ _ c.if-exponent-eq0.false) c.put_byte-letter.ensures
    (wrote-split two_runs c.put_byte-next.ensures c.put_power.ensures))
