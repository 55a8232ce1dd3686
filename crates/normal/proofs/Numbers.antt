-- Coefficients in 32 signed bits: what fits there, and what is read back.
-- A number goes through its bits at each operation; under the bounds here it comes back.
use mathlib.Core.Path.{◌≡◌, refl, ◌∙◌}
use Prim.Native.Nat.{ℕ, zero, suc, ◌/◌, ◌^◌, ◌<◌, ◌≤◌, max}
use native.Mathlib.Nat.{div-le_self, lt_of_le_of_lt}
use native.Mathlib.Omega.{arith}
use lib.IntN.{ℤ, pos, negsuc, neg_ℤ, nat_abs, ◌-ℤ◌, +ℤ_idl}
use lib.Signed.{mag, quot_z}
use mir.Syntax.{w32}
use mir.Val.{SFits, to_z, of_z}
use mir.ValLaws.{to_z-of_z}
use Rattle.rules.specs.Polynomial.{or_one}
use Rattle.normal_laws.specs.Twice.{magnitude-negated}

magnitude-fits : (z : ℤ) → nat_abs z < 2 ^ 31 → SFits w32 z
magnitude-fits (pos n) h = record { sfits = h }
magnitude-fits (negsuc n) h = record { sfits = omega arith }

minus : (z : ℤ) → pos 0 -ℤ z ≡ neg_ℤ z
minus z = +ℤ_idl (neg_ℤ z)

-- An element of an array, through its bits.
pub read_back : (z : ℤ) → mag z < 2 ^ 31 → to_z w32 (of_z w32 z) ≡ z
read_back z h = to_z-of_z w32 z (record { sfits = h })

module _ (z : ℤ) (small : nat_abs z < 2 ^ 31) where
  -- A coefficient within the bound, through its bits.
  pub bounded-back : to_z w32 (of_z w32 z) ≡ z
  bounded-back = to_z-of_z w32 z (magnitude-fits z small)

  -- Its negation fits.
  pub minus-fits : SFits w32 (pos 0 -ℤ to_z w32 (of_z w32 z))
  minus-fits = rw (bounded-back, minus z) (magnitude-fits (neg_ℤ z) (rw (magnitude-negated z) small))

  -- And is what the subtraction gives.
  pub minus-back : to_z w32 (of_z w32 (pos 0 -ℤ to_z w32 (of_z w32 z))) ≡ neg_ℤ z
  minus-back = to_z-of_z w32 (pos 0 -ℤ to_z w32 (of_z w32 z)) minus-fits ∙ rw bounded-back (minus z)

-- 0 read as 1.
pub at-least-one : (g : ℕ) → max g 1 ≡ or_one g
unfolding or_one
at-least-one zero = refl
at-least-one (suc k) = omega arith

-- ---- Quotients.

quotient-magnitude : (z : ℤ) (g : ℕ) → mag (quot_z z (pos g)) ≤ mag z
quotient-magnitude (pos a) g = div-le_self a g
quotient-magnitude (negsuc a) g = of-quotient (suc a / g) (div-le_self (suc a) g)
  where
    of-quotient : (q : ℕ) → q ≤ suc a → mag (neg_ℤ (pos q)) ≤ a
    of-quotient zero h = omega arith
    of-quotient (suc q) h = omega arith

divisor-back : (g : ℕ) → g < 2 ^ 31 → to_z w32 g ≡ pos g
divisor-back g h = to_z-of_z w32 (pos g) (record { sfits = h })

module _ (z : ℤ) (g : ℕ) (there : mag z < 2 ^ 31) (small : g < 2 ^ 31) where
  -- The quotient by a number above 0 fits.
  pub quotient_fits : SFits w32 (quot_z (to_z w32 (of_z w32 z)) (to_z w32 g))
  quotient_fits = rw (read_back z there, divisor-back g small) (record { sfits = lt_of_le_of_lt (quotient-magnitude z g) there })

  -- And is what the division gives.
  pub quotient-back : to_z w32 (of_z w32 (quot_z (to_z w32 (of_z w32 z)) (to_z w32 g))) ≡ quot_z z (pos g)
  quotient-back = to_z-of_z w32 (quot_z (to_z w32 (of_z w32 z)) (to_z w32 g)) quotient_fits ∙ rw (read_back z there, divisor-back g small)
