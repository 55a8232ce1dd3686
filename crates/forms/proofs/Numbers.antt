-- Coefficients in 32 signed bits are equal exactly if their bits are; and the monomial of a variable by a shift.
use mathlib.Core.Path.{◌≡◌, refl, ap, ◌∙◌}
use mathlib.Core.Bool.{Bool, true, false}
use Prim.Native.Nat.{ℕ, zero, suc, ◌+◌, ◌-◌, ◌*◌, ◌%◌, ◌^◌, ◌<◌, ◌≤◌}
use native.Mathlib.Nat.{mod-eq_of_lt, one-mul, pow-succ'}
use native.Mathlib.Omega.{arith}
use borrow.Author.Tests.{eqb-true, eqb-false, eq-eqb, ne_eqb}
use lib.Dec.{eqb}
use lib.IntN.{ℤ, pos, negsuc}
use lib.Pow.{pow-add, pow-lt}
use lib.Signed.{mag}
use mir.Syntax.{w32}
use mir.Val.{of_z}
use Rattle.rules.specs.Polynomial.{same_number}

-- Two numbers are equal exactly if their bits are.
pub same_bits : (x y : ℤ) → mag x < 2 ^ 31 → mag y < 2 ^ 31 → eqb (of_z w32 x) (of_z w32 y) ≡ same_number x y
unfolding same_number
same_bits (pos a) (pos b) h k = refl
same_bits (pos a) (negsuc b) h k = ne_eqb a (2 ^ 32 - suc b) (λ e. omega arith)
same_bits (negsuc a) (pos b) h k = ne_eqb (2 ^ 32 - suc a) b (λ e. omega arith)
same_bits (negsuc a) (negsuc b) h k = by-test (eqb a b) refl
  where
    by-test : (t : Bool) → eqb a b ≡ t → eqb (2 ^ 32 - suc a) (2 ^ 32 - suc b) ≡ t
    by-test true e = let same = eqb-true a b e in eq-eqb (2 ^ 32 - suc a) (2 ^ 32 - suc b) (omega arith)
    by-test false e = ne_eqb (2 ^ 32 - suc a) (2 ^ 32 - suc b) (λ f. eqb-false a b e (omega arith))

-- ---- The monomial of a variable.

power-of-four-bits : (k : ℕ) → 2 ^ (4 * k) ≡ 16 ^ k
power-of-four-bits zero = refl
power-of-four-bits (suc k) =
    let e : 4 * suc k ≡ 4 + 4 * k = omega arith in rw (e, pow-add 2 4 (4 * k), pow-succ' 16 k) (ap (λ (x : ℕ). 16 * x) (power-of-four-bits k))

-- The exponent 1 at the four bits of variable i of n, by a shift.
pub variable-shifted : (n i : ℕ) → n ≤ 16 → i < n → 1 * 2 ^ (4 * (n - 1 - i)) % 2 ^ 64 ≡ 16 ^ (n - suc i)
variable-shifted n i h m =
    let few : 4 * (n - 1 - i) < 64 = omega arith in
    let below : 2 ^ (4 * (n - 1 - i)) < 2 ^ 64 = pow-lt few in
    let later : n - 1 - i ≡ n - suc i = omega arith in
    rw (one-mul (2 ^ (4 * (n - 1 - i))), mod-eq_of_lt below) (power-of-four-bits (n - 1 - i) ∙ ap (λ (j : ℕ). 16 ^ j) later)
