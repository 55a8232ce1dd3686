-- Signed numbers of 32 bits: a coefficient of its minus bit and magnitude.
-- A signed number passes through its bits at each step of the code (`to_z w (of_z w x)`).
use mathlib.Core.Path.{◌≡◌, refl}
use Prim.Native.Nat.{ℕ, zero, suc, ◌^◌, ◌<◌}
use native.Mathlib.Omega.{arith}
use lib.IntN.{pos, neg_ℤ, ◌-ℤ◌, +ℤ_idl}
use mir.Syntax.{w32}
use mir.Val.{SFits, to_z, of_z}
use mir.ValLaws.{to_z-of_z}
use Rattle.rules.specs.Block.{signed}

module _ (magnitude : ℕ) (h : magnitude < 2 ^ 31) where
  pub plus-value : to_z w32 magnitude ≡ pos magnitude
  plus-value = to_z-of_z w32 (pos magnitude) (record { sfits = h })

  minus-small : (m : ℕ) → m < 2 ^ 31 → SFits w32 (neg_ℤ (pos m))
  minus-small zero l = record { sfits = omega arith }
  minus-small (suc m) l = record { sfits = omega arith }

  -- 0 - magnitude
  minus_is : pos 0 -ℤ to_z w32 magnitude ≡ neg_ℤ (pos magnitude)
  minus_is = rw plus-value (+ℤ_idl (neg_ℤ (pos magnitude)))

  pub minus-fits : SFits w32 (pos 0 -ℤ to_z w32 magnitude)
  minus-fits = rw minus_is (minus-small magnitude h)

  pub minus-value : to_z w32 (of_z w32 (pos 0 -ℤ to_z w32 magnitude)) ≡ neg_ℤ (pos magnitude)
  minus-value = rw minus_is (to_z-of_z w32 (neg_ℤ (pos magnitude)) (minus-small magnitude h))

pub signed-plus : (minus magnitude : ℕ) → minus ≡ 0 → pos magnitude ≡ signed minus magnitude
unfolding signed
signed-plus minus magnitude e = rw e

pub signed-minus : (minus magnitude : ℕ) → (minus ≡ 0 → ⊥) → neg_ℤ (pos magnitude) ≡ signed minus magnitude
unfolding signed
signed-minus zero magnitude e = absurd (e refl)
signed-minus (suc minus) magnitude e = refl
