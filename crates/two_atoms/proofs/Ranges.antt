-- A range of indices is narrowed: at its ends the monomial at hand fails, and with it the set by terms.
use mathlib.Core.Path.{◌≡◌, refl, sym}
use mathlib.Core.Bool.{Bool, true, false, false≢true}
use Prim.Native.Nat.{ℕ, zero, suc, ◌-◌, ◌<◌}
use native.Mathlib.Omega.{arith}
use lib.IntN.{ℤ, ◌-ℤ◌, ◌*ℤ◌}
use mir.Syntax.{w32, w64}
use mir.Val.{SFits, to_z, of_z}
use mir.ValLaws.{to_z-of_z}
use Rattle.rules.specs.Signs.{Sign, negative, nought, positive, sign_of, SignSet, only, sum_of_signs, all_signs, sum, product, inside, open_signs}
use Rattle.sign_laws.specs.Sets.{◌In◌, set_of-small, in_all}
use Rattle.removal_laws.specs.Terms.{Signed as HasSign}
use Rattle.interval.specs.Coefficients.{back}
use Rattle.two_atoms.specs.Tries.{factor_at}
use Rattle.two_atoms.specs.Ranges.{asked_in, barred}
use Rattle.two_atoms.proofs.Totals.{Outer, below, above, stays-first}
use Rattle.two_atoms.proofs.Factors.{factor-back}

-- ---- one index more fails

-- the sign of the coefficient, from the bits of its numbers
pub value-at : {x b z : ℤ} (i : ℕ) {r : SignSet} → SFits w64 x → SFits w32 b → z ≡ factor_at (7 - i)
    → r ≡ only (sign_of (to_z w64 (of_z w64 x) -ℤ to_z w32 (of_z w32 z) *ℤ to_z w32 (of_z w32 b))) → r ≡ only (sign_of (x -ℤ factor_at (7 - i) *ℤ b))
value-at {x} i f g e h = rw (to_z-of_z w64 x f, back g, factor-back (7 - i) e) at h

-- ---- what a monomial that fails makes of the set by terms

pub outer : (mirrored : Bool) → Outer (barred mirrored)
unfolding barred
outer false = below
outer true = above

-- a set that does not lie inside the one that is asked for has them
pub has-barred : (mirrored : Bool) (s : SignSet) → s < 8 → inside s (asked_in mirrored) ≡ false → barred mirrored In s
unfolding open_signs asked_in barred
has-barred false zero h e = absurd (false≢true (sym e))
has-barred false (suc zero) h e = absurd (false≢true (sym e))
has-barred false (suc (suc zero)) h e = absurd (false≢true (sym e))
has-barred false (suc (suc (suc zero))) h e = absurd (false≢true (sym e))
has-barred false (suc (suc (suc (suc zero)))) h e = record { is = refl }
has-barred false (suc (suc (suc (suc (suc zero))))) h e = record { is = refl }
has-barred false (suc (suc (suc (suc (suc (suc zero)))))) h e = record { is = refl }
has-barred false (suc (suc (suc (suc (suc (suc (suc zero))))))) h e = record { is = refl }
has-barred false (suc (suc (suc (suc (suc (suc (suc (suc s)))))))) h e = absurd (omega arith)
has-barred true zero h e = absurd (false≢true (sym e))
has-barred true (suc zero) h e = record { is = refl }
has-barred true (suc (suc zero)) h e = absurd (false≢true (sym e))
has-barred true (suc (suc (suc zero))) h e = record { is = refl }
has-barred true (suc (suc (suc (suc zero)))) h e = absurd (false≢true (sym e))
has-barred true (suc (suc (suc (suc (suc zero))))) h e = record { is = refl }
has-barred true (suc (suc (suc (suc (suc (suc zero)))))) h e = absurd (false≢true (sym e))
has-barred true (suc (suc (suc (suc (suc (suc (suc zero))))))) h e = record { is = refl }
has-barred true (suc (suc (suc (suc (suc (suc (suc (suc s)))))))) h e = absurd (omega arith)

-- added to any number they are left
stays-second : {x : Sign} → Outer x → (y : Sign) → x In sum_of_signs y x
unfolding open_signs
stays-second below negative = record { is = refl }
stays-second below nought = record { is = refl }
stays-second below positive = record { is = refl }
stays-second above negative = record { is = refl }
stays-second above nought = record { is = refl }
stays-second above positive = record { is = refl }

pub added-in-sum : {x : Sign} → Outer x → {a b : SignSet} → HasSign a → x In b → x In sum a b
unfolding sum
added-in-sum o h k = in_all sum_of_signs h.held k (stays-second o h.sign)

-- a sum of sets with signs has a sign
some-sum : (x y : Sign) → HasSign (sum_of_signs x y)
unfolding open_signs
some-sum negative y = record { sign = negative; held = stays-first below y }
some-sum nought negative = record { sign = negative; held = record { is = refl } }
some-sum nought nought = record { sign = nought; held = record { is = refl } }
some-sum nought positive = record { sign = positive; held = record { is = refl } }
some-sum positive y = record { sign = positive; held = stays-first above y }

pub sum-signed : {a b : SignSet} → HasSign a → HasSign b → HasSign (sum a b)
unfolding sum
sum-signed h k = let s = some-sum h.sign k.sign in record { sign = s.sign; held = in_all sum_of_signs h.held k.held s.held }

pub product-low : (a b : SignSet) → product a b < 8
unfolding product all_signs
product-low a b = set_of-small _
