-- The sign of a + tb at a t = -c/d, by the cross products ad and cb and the sign of d.
-- It is the sign of ad - cb if d is above 0, and of cb - ad if d is below 0.
use mathlib.Core.Path.{◌≡◌, refl, sym, ap, ◌∙◌}
use mathlib.Core.Bool.{Bool, true, false, not, true≢false, false≢true}
use mathlib.Core.List.{[], ◌∷◌}
use Prim.Native.Nat.{zero, suc}
use native.Mathlib.Omega.{arith}
use borrow.Author.Tests.{ltb-true}
use lib.Dec.{eqb}
use lib.IntN.{ℤ, pos, negsuc, neg_ℤ, ◌*ℤ◌, ◌-ℤ◌}
use lib.Signed.{lt_z, le_z, non_neg}
use Rattle.whole.specs.Differences.{order-by-difference}
use Rattle.whole.specs.Solver.{#, ◌:+◌, ◌:-◌, ◌:*◌, neg, solve}
use Rattle.rules.specs.Signs.{negative, nought, positive, sign_of, SignSet, only}
use Rattle.rules.specs.Deduce.{Fraction, End, free, at, is_zero, not_zero_at}
use Rattle.deduction_laws.specs.Fractions.{combined, zero_fraction}
use Rattle.interval.specs.Ends.{end_at}
use Rattle.interval.specs.Coefficients.{zero-sign}

-- ---- x - y, by the order of x and y

turned : (x y : ℤ) → neg_ℤ (x -ℤ y) ≡ y -ℤ x
turned x y = solve (x ∷ y ∷ []) (neg (# 0 :- # 1)) (# 1 :- # 0) tt

is-nought : (z : ℤ) → non_neg z ≡ true → non_neg (neg_ℤ z) ≡ true → sign_of z ≡ nought
unfolding sign_of
is-nought (pos zero) e f = refl
is-nought (pos (suc n)) e f = absurd (false≢true f)
is-nought (negsuc n) e f = absurd (false≢true e)

is_positive : (z : ℤ) → non_neg z ≡ true → non_neg (neg_ℤ z) ≡ false → sign_of z ≡ positive
unfolding sign_of
is_positive (pos zero) e f = absurd (true≢false f)
is_positive (pos (suc n)) e f = refl
is_positive (negsuc n) e f = absurd (false≢true e)

is_negative : (z : ℤ) → non_neg z ≡ false → sign_of z ≡ negative
unfolding sign_of
is_negative (pos n) e = absurd (true≢false e)
is_negative (negsuc n) e = refl

module _ (x y : ℤ) where
  forth : {m : Bool} → le_z y x ≡ m → non_neg (x -ℤ y) ≡ m
  forth e = sym (order-by-difference y x) ∙ e

  back : {m : Bool} → le_z x y ≡ m → non_neg (neg_ℤ (x -ℤ y)) ≡ m
  back e = ap non_neg (turned x y) ∙ sym (order-by-difference x y) ∙ e

  pub between_none : le_z y x ≡ true → le_z x y ≡ true → 2 ≡ only (sign_of (x -ℤ y))
  unfolding only
  between_none e f = rw (is-nought (x -ℤ y) (forth e) (back f))

  pub between-above : le_z y x ≡ true → le_z x y ≡ false → 1 ≡ only (sign_of (x -ℤ y))
  unfolding only
  between-above e f = rw (is_positive (x -ℤ y) (forth e) (back f))

  pub between-below : le_z y x ≡ false → 4 ≡ only (sign_of (x -ℤ y))
  unfolding only
  between-below e = rw (is_negative (x -ℤ y) (forth e))

-- ---- a + tb

fraction : End → Fraction
fraction free = zero_fraction
fraction (at t) = t

there : End → Bool
there free = false
there (at t) = true

module _ (a b c : ℤ) where
  pub value-falling : (d : ℤ) (t : Fraction) → lt_z d (pos 0) ≡ true → end_at c d ≡ at t → (c *ℤ b) -ℤ (a *ℤ d) ≡ combined t a b
  unfolding fraction
  value-falling (pos n) t e f = absurd (omega (arith, ltb-true n 0 e))
  value-falling (negsuc n) t e f =
      solve (a ∷ b ∷ c ∷ pos (suc n) ∷ []) (# 2 :* # 1 :- # 0 :* neg (# 3)) (# 0 :* # 3 :+ # 2 :* # 1) tt ∙ ap (λ (t : Fraction). combined t a b) (ap fraction f)

  pub value-rising : (d : ℤ) (t : Fraction) → lt_z d (pos 0) ≡ false → end_at c d ≡ at t → (a *ℤ d) -ℤ (c *ℤ b) ≡ combined t a b
  unfolding fraction there
  value-rising (pos zero) t e f = absurd (false≢true (ap there f))
  value-rising (pos (suc n)) t e f =
      solve (a ∷ b ∷ c ∷ pos (suc n) ∷ []) (# 0 :* # 3 :- # 2 :* # 1) (# 0 :* # 3 :+ neg (# 2) :* # 1) tt ∙ ap (λ (t : Fraction). combined t a b) (ap fraction f)
  value-rising (negsuc n) t e f = absurd (true≢false e)

-- it is not 0, where t is there
pub not-zero-there : (c d a b : ℤ) (value : SignSet) → is_zero d ≡ false → ((t : Fraction) → end_at c d ≡ at t → value ≡ only (sign_of (combined t a b)))
    → not (eqb value 2) ≡ not_zero_at (end_at c d) a b
unfolding not_zero_at is_zero
not-zero-there c (pos zero) a b value e f = absurd (true≢false e)
not-zero-there c (pos (suc n)) a b value e f = ap (λ (v : SignSet). not (eqb v 2)) (f _ refl) ∙ ap not (zero-sign _)
not-zero-there c (negsuc n) a b value e f = ap (λ (v : SignSet). not (eqb v 2)) (f _ refl) ∙ ap not (zero-sign _)
