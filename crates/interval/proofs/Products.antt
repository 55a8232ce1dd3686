-- Products of coefficients of 32 signed bits: they fit 64 bits, and they are read back from their bits.
-- The machine widens the two factors before it multiplies them.
use mathlib.Core.Path.{◌≡◌, refl}
use Prim.Native.Nat.{zero, suc, ◌*◌, ◌≤◌}
use native.Mathlib.Nat.{mul-le-mul}
use native.Mathlib.Omega.{arith}
use lib.IntN.{ℤ, pos, negsuc, neg_ℤ, nat_abs, ◌*ℤ◌}
use lib.Signed.{mag}
use mir.Syntax.{w32, w64}
use mir.Val.{SFits, to_z, of_z}
use mir.ValLaws.{to_z-of_z}
use Rattle.interval.specs.Coefficients.{back}

-- a number of 32 bits is one of 64
pub widened : {z : ℤ} → SFits w32 z → SFits w64 z
widened {z} f = record { sfits = omega (arith, f.sfits) }

magnitude-negated : (z : ℤ) → nat_abs (neg_ℤ z) ≡ nat_abs z
magnitude-negated (pos zero) = refl
magnitude-negated (pos (suc n)) = refl
magnitude-negated (negsuc n) = refl

magnitude-product : (a b : ℤ) → nat_abs (a *ℤ b) ≡ nat_abs a * nat_abs b
magnitude-product (pos a) (pos b) = refl
magnitude-product (pos a) (negsuc b) = magnitude-negated (pos (a * suc b))
magnitude-product (negsuc a) (pos b) = magnitude-negated (pos (suc a * b))
magnitude-product (negsuc a) (negsuc b) = refl

within-magnitude : (z : ℤ) → mag z ≤ nat_abs z
within-magnitude (pos n) = omega arith
within-magnitude (negsuc n) = omega arith

magnitude : {z : ℤ} → SFits w32 z → nat_abs z ≤ 2147483648
magnitude {z = pos n} f = omega (arith, f.sfits)
magnitude {z = negsuc n} f = omega (arith, f.sfits)

-- "each cross product fits 64 signed bits"
pub product-fits : {a b : ℤ} → SFits w32 a → SFits w32 b → SFits w64 (a *ℤ b)
product-fits {a} {b} f g =
    let h : nat_abs a * nat_abs b ≤ 2147483648 * 2147483648 = mul-le-mul (magnitude f) (magnitude g) in
    record { sfits = omega (arith, within-magnitude (a *ℤ b), magnitude-product a b) }

-- a cross product, from the bits of its factors
pub product-back : {a b r : ℤ} → SFits w32 a → SFits w32 b → r ≡ to_z w32 (of_z w32 a) *ℤ to_z w32 (of_z w32 b) → to_z w64 (of_z w64 r) ≡ a *ℤ b
product-back f g e = rw (e, back f, back g) (to_z-of_z w64 _ (product-fits f g))
