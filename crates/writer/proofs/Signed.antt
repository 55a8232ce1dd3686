-- Signed numbers of 32 bits: a coefficient's minus bit and magnitude, as the code takes them.
-- A signed number passes through its bits at each step of the code (`to_z w (of_z w x)`).
use mathlib.Core.Path.{◌≡◌, refl}
use Prim.Native.Nat.{zero, suc}
use mathlib.Core.Bool.{true, false, true≢false}
use borrow.Author.Tests.{ltb-true}
use native.Mathlib.Omega.{arith}
use lib.Dec.{T}
use lib.IntN.{ℤ, pos, negsuc, neg_ℤ, nat_abs, ◌-ℤ◌, +ℤ_idl}
use lib.Signed.{lt_z, non_neg}
use mir.Syntax.{w32, w64}
use mir.Val.{SFits, Fits, to_z, of_z}
use mir.ValLaws.{to_z-of_z}
use Rattle.rules.specs.Block.{minus_bit}

fits-long : (x : ℤ) → SFits w32 x → SFits w64 x × SFits w64 (neg_ℤ x)
fits-long (pos zero) f = (record { sfits = omega arith }, record { sfits = omega arith })
fits-long (pos (suc n)) f = (record { sfits = omega (arith, f.sfits) }, record { sfits = omega (arith, f.sfits) })
fits-long (negsuc n) f = (record { sfits = omega (arith, f.sfits) }, record { sfits = omega (arith, f.sfits) })

is_negative : (x : ℤ) → lt_z x (pos 0) ≡ true → 1 ≡ minus_bit x
unfolding minus_bit
is_negative (pos n) h = absurd (omega (arith, ltb-true n 0 h))
is_negative (negsuc n) h = refl

not_negative : (x : ℤ) → lt_z x (pos 0) ≡ false → 0 ≡ minus_bit x
unfolding minus_bit
not_negative (pos n) h = refl
not_negative (negsuc n) h = absurd (true≢false h)

negated : (x : ℤ) → nat_abs (neg_ℤ x) ≡ nat_abs x
negated (pos zero) = refl
negated (pos (suc n)) = refl
negated (negsuc n) = refl

cast-negated : (x : ℤ) → SFits w32 x → lt_z x (pos 0) ≡ true → T (non_neg (neg_ℤ x)) × Fits w64 (nat_abs (neg_ℤ x))
cast-negated (pos n) f h = absurd (omega (arith, ltb-true n 0 h))
cast-negated (negsuc n) f h = (tt, record { fits = omega (arith, f.sfits) })

cast-plain : (x : ℤ) → SFits w32 x → lt_z x (pos 0) ≡ false → T (non_neg x) × Fits w64 (nat_abs x)
cast-plain (pos n) f h = (tt, record { fits = omega (arith, f.sfits) })
cast-plain (negsuc n) f h = absurd (true≢false h)

module _ (x : ℤ) (f : SFits w32 x) where
  back : to_z w32 (of_z w32 x) ≡ x
  back = to_z-of_z w32 x f

  -- The coefficient as a number of 64 bits.
  pub long-fits : SFits w64 (to_z w32 (of_z w32 x))
  long-fits = rw back (fits-long x f).0

  long : to_z w64 (of_z w64 (to_z w32 (of_z w32 x))) ≡ x
  long = rw back (to_z-of_z w64 x (fits-long x f).0)

  pub minus_one : lt_z (to_z w32 (of_z w32 x)) (pos 0) ≡ true → 1 ≡ minus_bit x
  minus_one h = is_negative x (rw back at h)

  pub minus-none : lt_z (to_z w32 (of_z w32 x)) (pos 0) ≡ false → 0 ≡ minus_bit x
  minus-none h = not_negative x (rw back at h)

  negation : pos 0 -ℤ to_z w64 (of_z w64 (to_z w32 (of_z w32 x))) ≡ neg_ℤ x
  negation = rw long (+ℤ_idl (neg_ℤ x))

  pub negation-fits : SFits w64 (pos 0 -ℤ to_z w64 (of_z w64 (to_z w32 (of_z w32 x))))
  negation-fits = rw negation (fits-long x f).1

  negation-value : to_z w64 (of_z w64 (pos 0 -ℤ to_z w64 (of_z w64 (to_z w32 (of_z w32 x))))) ≡ neg_ℤ x
  negation-value = rw negation (to_z-of_z w64 (neg_ℤ x) (fits-long x f).1)

  pub magnitude-below : lt_z (to_z w64 (of_z w64 (to_z w32 (of_z w32 x)))) (pos 0) ≡ true → let z = to_z w64 (of_z w64 (pos 0 -ℤ to_z w64 (of_z w64 (to_z w32 (of_z w32 x)))))
      in
      (T (non_neg z) × Fits w64 (nat_abs z)) × (nat_abs z ≡ nat_abs x)
  magnitude-below h = rw negation-value (cast-negated x f (rw long at h), negated x)

  pub magnitude-above : lt_z (to_z w64 (of_z w64 (to_z w32 (of_z w32 x)))) (pos 0) ≡ false → let z = to_z w64 (of_z w64 (to_z w32 (of_z w32 x))) in
      (T (non_neg z) × Fits w64 (nat_abs z)) × (nat_abs z ≡ nat_abs x)
  magnitude-above h = rw long (cast-plain x f (rw long at h), refl)
