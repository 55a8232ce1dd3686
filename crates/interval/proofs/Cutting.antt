-- How a monomial with the coefficients a and b cuts an interval, one law for each way through the code.
-- The ends come from the coefficients as they are; the book turns a fraction to a denominator above 0 first.
use mathlib.Core.Path.{◌≡◌, refl, sym, ap, ◌∙◌}
use mathlib.Core.Bool.{Bool, true, false, ◌||◌, true≢false}
use Prim.Native.Nat.{zero, suc}
use native.Mathlib.Omega.{arith}
use borrow.Author.Tests.{ltb-true, ltb-false, lt-ltb, le-ltb, le-leb}
use lib.IntN.{ℤ, pos, negsuc, neg_ℤ, neg_ℤ-neg_ℤ}
use lib.Signed.{lt_z, le_z}
use Rattle.rules.specs.Deduce.{Fraction, End, free, at, Interval, at_most, either, higher, lower, cut_not_negative, cut_not_positive, end_at_most}
use Rattle.interval.specs.Ends.{end_at, one_of, higher_end, lower_end}

-- ---- the higher and the lower of an end and a fraction

one-of-fractions : (m : Bool) (t u : Fraction) → one_of m (at t) (at u) ≡ either m t u
unfolding either
one-of-fractions true t u = refl
one-of-fractions false t u = refl

higher-is : (e : End) (t : Fraction) → higher_end e (at t) ≡ higher e t
unfolding higher_end higher end_at_most
higher-is free t = refl
higher-is (at u) t = one-of-fractions (at_most u t) t u

lower-is : (e : End) (t : Fraction) → lower_end e (at t) ≡ lower e t
unfolding lower_end lower end_at_most
lower-is free t = refl
lower-is (at u) t = one-of-fractions (at_most t u) t u

-- ---- cut by a + tb ≥ 0

module _ (a : ℤ) where
  pub not-negative-high : (b : ℤ) (l h : End) (v : Bool) → lt_z b (pos 0) ≡ true
      → ◌≡◌ {A = Interval} (record { low = l; high = lower_end h (end_at a b); void = v }) (cut_not_negative a b (record { low = l; high = h; void = v }))
  unfolding cut_not_negative
  not-negative-high (pos b) l h v e = absurd (omega (arith, ltb-true b 0 e))
  not-negative-high (negsuc b) l h v e = ap (λ (x : End). record { low = l; high = x; void = v }) (lower-is h (record { numerator = a; less = b }))

  pub not-negative-low : (b : ℤ) (l h : End) (v : Bool) → lt_z (pos 0) b ≡ true
      → ◌≡◌ {A = Interval} (record { low = higher_end l (end_at a b); high = h; void = v }) (cut_not_negative a b (record { low = l; high = h; void = v }))
  unfolding cut_not_negative
  not-negative-low (pos zero) l h v e = absurd (true≢false (sym e))
  not-negative-low (pos (suc b)) l h v e = ap (λ (x : End). record { low = x; high = h; void = v }) (higher-is l (record { numerator = neg_ℤ a; less = b }))
  not-negative-low (negsuc b) l h v e = absurd (true≢false (sym e))

below-zero : (a : ℤ) → lt_z a (pos 0) ≡ le_z a (negsuc 0)
below-zero (pos n) = le-ltb n 0 (omega arith)
below-zero (negsuc zero) = refl
below-zero (negsuc (suc n)) = sym (le-leb 0 (suc n) (omega arith))

-- a monomial that q does not have: it is a that must be ≥ 0
pub not-negative-void : (a b : ℤ) (l h : End) (v w : Bool) → lt_z b (pos 0) ≡ false → lt_z (pos 0) b ≡ false → v || lt_z a (pos 0) ≡ w
    → ◌≡◌ {A = Interval} (record { low = l; high = h; void = w }) (cut_not_negative a b (record { low = l; high = h; void = v }))
unfolding cut_not_negative
not-negative-void a (pos zero) l h v w e f g = ap (λ (x : Bool). record { low = l; high = h; void = x }) (sym g ∙ ap (λ (x : Bool). v || x) (below-zero a))
not-negative-void a (pos (suc b)) l h v w e f g = absurd (omega (arith, ltb-false 0 (suc b) f))
not-negative-void a (negsuc b) l h v w e f g = absurd (true≢false e)

-- ---- cut by a + tb ≤ 0: the same with the signs of a and b turned, which leaves -a/b as it is

below-turned : (a : ℤ) → lt_z (neg_ℤ a) (pos 0) ≡ lt_z (pos 0) a
below-turned (pos zero) = refl
below-turned (pos (suc n)) = sym (lt-ltb 0 (suc n) (omega arith))
below-turned (negsuc n) = le-ltb (suc n) 0 (omega arith)

above-turned : (a : ℤ) → lt_z (pos 0) (neg_ℤ a) ≡ lt_z a (pos 0)
above-turned a = sym (below-turned (neg_ℤ a)) ∙ ap (λ (z : ℤ). lt_z z (pos 0)) (neg_ℤ-neg_ℤ a)

end-turned : (a b : ℤ) → end_at (neg_ℤ a) (neg_ℤ b) ≡ end_at a b
end-turned a (pos zero) = refl
end-turned a (pos (suc b)) = refl
end-turned a (negsuc b) = ap (λ (z : ℤ). at (record { numerator = z; less = b })) (neg_ℤ-neg_ℤ a)

module _ (a b : ℤ) (l h : End) (v : Bool) where
  pub not-positive-high : lt_z (pos 0) b ≡ true
      → ◌≡◌ {A = Interval} (record { low = l; high = lower_end h (end_at a b); void = v }) (cut_not_positive a b (record { low = l; high = h; void = v }))
  unfolding cut_not_positive
  not-positive-high e = rw (← end-turned a b) (not-negative-high (neg_ℤ a) (neg_ℤ b) l h v (below-turned b ∙ e))

  pub not-positive-low : lt_z b (pos 0) ≡ true
      → ◌≡◌ {A = Interval} (record { low = higher_end l (end_at a b); high = h; void = v }) (cut_not_positive a b (record { low = l; high = h; void = v }))
  unfolding cut_not_positive
  not-positive-low e = rw (← end-turned a b) (not-negative-low (neg_ℤ a) (neg_ℤ b) l h v (above-turned b ∙ e))

  pub not-positive-void : (w : Bool) → lt_z (pos 0) b ≡ false → lt_z b (pos 0) ≡ false → v || lt_z (pos 0) a ≡ w
      → ◌≡◌ {A = Interval} (record { low = l; high = h; void = w }) (cut_not_positive a b (record { low = l; high = h; void = v }))
  unfolding cut_not_positive
  not-positive-void w e f g = not-negative-void (neg_ℤ a) (neg_ℤ b) l h v w (below-turned b ∙ e) (above-turned b ∙ f) (ap (λ (x : Bool). v || x) (below-turned a) ∙ g)
