-- Euclid's rule one step at a time, and how large the greatest common divisor is.
use Rattle.std.specs.Prelude.{◌≡◌, refl, ℕ, zero, suc, ◌%◌, ◌<◌}
use Rattle.std.proofs.Common.{mod-lt, zero-lt-suc, arith}
use Rattle.rules.specs.Polynomial.{gcd_within, gcd, or_one}
use Rattle.ending_laws.specs.Gcd.{more-steps-change-nothing}

-- The remainder takes the place of the first number.
pub gcd-step : (a b : ℕ) → (b ≡ 0 → ⊥) → gcd b (a % b) ≡ gcd a b
unfolding gcd gcd_within
gcd-step a zero h = absurd (h refl)
gcd-step a (suc b) h =
    let falls = mod-lt a (zero-lt-suc b) in more-steps-change-nothing (suc (a % suc b)) (suc b) (suc b) (a % suc b) (omega arith) (omega arith)

-- Until nothing remains.
pub gcd-end : (a b : ℕ) → b ≡ 0 → gcd a b ≡ a
unfolding gcd gcd_within
gcd-end a zero h = refl
gcd-end a (suc b) h = absurd (omega arith)

within-small : (m k a b : ℕ) → a < m → b < m → gcd_within k a b < m
unfolding gcd_within
within-small m zero a b h i = h
within-small m (suc k) a zero h i = h
within-small m (suc k) a (suc b) h i = within-small m k (suc b) (a % suc b) i (omega (arith, mod-lt a (zero-lt-suc b)))

-- The greatest common divisor of two numbers below a bound is below it.
pub gcd-small : (m a b : ℕ) → a < m → b < m → gcd a b < m
unfolding gcd
gcd-small m a b h i = within-small m (suc b) a b h i

-- A content of 0 is read as 1.
pub or-one-none : (g : ℕ) → g ≡ 0 → 1 ≡ or_one g
unfolding or_one
or-one-none zero h = refl
or-one-none (suc g) h = absurd (omega arith)

-- And every other as itself.
pub or-one-some : (g : ℕ) → (g ≡ 0 → ⊥) → g ≡ or_one g
unfolding or_one
or-one-some zero h = absurd (h refl)
or-one-some (suc g) h = refl
