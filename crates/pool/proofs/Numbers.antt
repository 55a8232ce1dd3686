-- A coefficient in 32 signed bits, widened to 64: it and its negation fit, and come back through their bits.
use mathlib.Core.Path.{◌≡◌, ◌∙◌}
use mathlib.Core.Bool.{true, false, true≢false}
use Prim.Native.Nat.{zero, suc, ◌-◌, ◌*◌, ◌^◌, ◌<◌, ◌≤◌}
use native.Mathlib.Omega.{arith}
use borrow.Author.Tests.{ltb-true}
use lib.Dec.{T}
use lib.IntN.{ℤ, pos, negsuc, neg_ℤ, nat_abs, ◌-ℤ◌, +ℤ_idl}
use lib.Signed.{mag, lt_z, non_neg}
use mir.Syntax.{w32, w64}
use mir.Val.{SFits, to_z, of_z}
use mir.ValLaws.{to_z-of_z}
use Rattle.pool.specs.Coefficients.{coefficient_word}

fits-wide : (z : ℤ) → mag z < 2 ^ 31 → SFits w64 z
fits-wide z h = record { sfits = omega arith }

negated_fits : (z : ℤ) → mag z < 2 ^ 31 → SFits w64 (neg_ℤ z)
negated_fits (pos zero) h = record { sfits = omega arith }
negated_fits (pos (suc n)) h = record { sfits = omega arith }
negated_fits (negsuc n) h = record { sfits = omega arith }

module _ (z : ℤ) (fits : SFits w32 z) where
  pub read_back : to_z w32 (of_z w32 z) ≡ z
  read_back = to_z-of_z w32 z fits

  pub wide_fits : SFits w64 (to_z w32 (of_z w32 z))
  wide_fits = rw read_back (fits-wide z fits.sfits)

  pub wide_back : to_z w64 (of_z w64 (to_z w32 (of_z w32 z))) ≡ z
  wide_back = to_z-of_z w64 (to_z w32 (of_z w32 z)) wide_fits ∙ read_back

  pub minus-fits : SFits w64 (pos 0 -ℤ to_z w64 (of_z w64 (to_z w32 (of_z w32 z))))
  minus-fits = rw (wide_back, +ℤ_idl (neg_ℤ z)) (negated_fits z fits.sfits)

  pub minus-back : to_z w64 (of_z w64 (pos 0 -ℤ to_z w64 (of_z w64 (to_z w32 (of_z w32 z))))) ≡ neg_ℤ z
  minus-back = to_z-of_z w64 (pos 0 -ℤ to_z w64 (of_z w64 (to_z w32 (of_z w32 z)))) minus-fits ∙ rw (wide_back, +ℤ_idl (neg_ℤ z))

-- Below 0.
pub negative-turns : (z : ℤ) → lt_z z (pos 0) ≡ true → T (non_neg (neg_ℤ z))
negative-turns (pos n) h = absurd (omega (arith, ltb-true n 0 h))
negative-turns (negsuc n) h = tt

pub negative-magnitude : (z : ℤ) → lt_z z (pos 0) ≡ true → mag z < 2 ^ 31 → (1 ≤ nat_abs (neg_ℤ z)) × (nat_abs (neg_ℤ z) ≤ 2 ^ 31)
negative-magnitude (pos n) h f = absurd (omega (arith, ltb-true n 0 h))
negative-magnitude (negsuc n) h f = (omega arith, omega arith)

pub negative-word : (z : ℤ) → lt_z z (pos 0) ≡ true → nat_abs (neg_ℤ z) * 2 - 1 ≡ coefficient_word z
unfolding coefficient_word
negative-word (pos n) h = absurd (omega (arith, ltb-true n 0 h))
negative-word (negsuc n) h = omega arith

-- Not below 0.
pub whole : (z : ℤ) → lt_z z (pos 0) ≡ false → T (non_neg z)
whole (pos n) h = tt
whole (negsuc n) h = absurd (true≢false h)

pub whole-magnitude : (z : ℤ) → lt_z z (pos 0) ≡ false → mag z < 2 ^ 31 → nat_abs z < 2 ^ 31
whole-magnitude (pos n) h f = f
whole-magnitude (negsuc n) h f = absurd (true≢false h)

pub whole_word : (z : ℤ) → lt_z z (pos 0) ≡ false → nat_abs z * 2 ≡ coefficient_word z
unfolding coefficient_word
whole_word (pos n) h = omega arith
whole_word (negsuc n) h = absurd (true≢false h)
