-- The sign of a coefficient, by the code's two tests.
use mathlib.Core.Path.{◌≡◌, refl, sym}
use mathlib.Core.Bool.{true, false, true≢false}
use Prim.Native.Nat.{zero, suc}
use native.Mathlib.Omega.{arith}
use borrow.Author.Tests.{ltb-true, ltb-false}
use lib.IntN.{ℤ, pos, negsuc}
use lib.Signed.{lt_z}
use Rattle.rules.specs.Signs.{sign_of, only}

pub sign-negative : (x : ℤ) → lt_z x (pos 0) ≡ true → 4 ≡ only (sign_of x)
unfolding only sign_of
sign-negative (pos zero) h = absurd (true≢false (sym h))
sign-negative (pos (suc n)) h = absurd (omega (arith, ltb-true (suc n) 0 h))
sign-negative (negsuc n) h = refl

pub sign-positive : (x : ℤ) → lt_z (pos 0) x ≡ true → 1 ≡ only (sign_of x)
unfolding only sign_of
sign-positive (pos zero) h = absurd (true≢false (sym h))
sign-positive (pos (suc n)) h = refl
sign-positive (negsuc n) h = absurd (true≢false (sym h))

pub sign-nought : (x : ℤ) → lt_z x (pos 0) ≡ false → lt_z (pos 0) x ≡ false → 2 ≡ only (sign_of x)
unfolding only sign_of
sign-nought (pos zero) h k = refl
sign-nought (pos (suc n)) h k = absurd (omega (arith, ltb-false 0 (suc n) k))
sign-nought (negsuc n) h k = absurd (true≢false h)
