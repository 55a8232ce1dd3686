-- `gcd` meets its contract: a step of Euclid's rule keeps the greatest common divisor.
use mathlib.Core.Path.{◌≡◌, refl, sym, ◌∙◌}
use native.Mathlib.Nat.{mod-lt}
use native.Mathlib.Omega.{arith}
use Rattle.rules.specs.Polynomial.{gcd}
use Rattle.normal.specs.Euclid.{gcd-step, gcd-end}
use Rattle.normal.proofs.gcd.Statement.{statement}
use Rattle.normal.proofs.gcd.Tie as tie

abbrev invariant-loop : tie.invariant-loop-b
invariant-loop first second a₀ b₀ a b = gcd a b ≡ gcd first second

abbrev decreases-loop : tie.decreases-loop-b
decreases-loop first second a₀ b₀ a b = b

pub gcd_spec : {M : Type 1} → statement M
gcd_spec =
    tie.close
    (tie.spec invariant-loop decreases-loop (λ c. refl) (λ c. omega arith) (λ c. mod-lt c.before.loop-b.a (omega arith))
    (λ c. gcd-step c.before.loop-b.a c.before.loop-b.b c.loop-b-test.true ∙ c.before.loop-b.invariant)
    (λ c. sym (gcd-end c.before.loop-b.a c.before.loop-b.b c.loop-b-test.false) ∙ c.before.loop-b.invariant))
