-- The ends of intervals in order: `Before weakly x y` says that x is at most y, `Before strictly x y` that x is below y.
-- A free end is below everything where a lower end stands, and above everything where an upper end stands.
use Rattle.std.specs.Prelude.{◌≡◌, refl, Bool, true, false, not, ◌↔◌, ℤ}
use Rattle.std.proofs.Common.{sym, ap}
use Rattle.std.proofs.Math.IntN.{neg_ℤ-neg_ℤ}
use Rattle.rules.specs.Signs.{nought, SignSet, sum, product, inside, open_signs}
use Rattle.rules.specs.Deduce.{Fraction, at_most, End, free, at, either, higher, lower, end_at_most, end_below, at_zero}
use Rattle.sign_laws.specs.Booleans.{not-true}
use Rattle.sign_laws.specs.Whole.{◌∈◌, by_sign, by_equal, wider}
use Rattle.deduction_laws.specs.Fractions.{gap, at-most, not-at-most, gap-through, no_gap, gap-from-zero, opposite, gap-opposite}

-- At most, or below.
pub data Strength : Type 0 where
  weakly strictly : Strength

-- The signs of u less t, if t is at most u or below u.
abbrev pub signs : Strength → SignSet
signs weakly = 3
signs strictly = 1

-- A free end, or a difference of the signs that are asked.
pub data Before (o : Strength) : End → End → Type 0 where
  from_free : {y : End} → Before o free y
  to_free : {t : Fraction} → Before o (at t) free
  apart : {t u : Fraction} → gap t u ∈ signs o → Before o (at t) (at u)

-- The difference of two fractions in order.
pub gap_of : {o : Strength} {t u : Fraction} → Before o (at t) (at u) → gap t u ∈ signs o
gap_of (apart h) = h

-- ---- The tests of the book say this.

-- The book's test of two ends.
abbrev pub in_order : Strength → End → End → Bool
in_order weakly = end_at_most
in_order strictly = end_below

-- It passes exactly if the ends are in order.
pub in-order : (o : Strength) (x y : End) → (in_order o x y ≡ true) ↔ Before o x y
unfolding end_at_most end_below
in-order weakly free y = (λ e. from_free, λ b. refl)
in-order weakly (at t) free = (λ e. to_free, λ b. refl)
in-order weakly (at t) (at u) = (λ e. apart ((at-most t u).0 e), λ b. (at-most t u).1 (gap_of b))
in-order strictly free y = (λ e. from_free, λ b. refl)
in-order strictly (at t) free = (λ e. to_free, λ b. refl)
in-order strictly (at t) (at u) = (λ e. apart ((not-at-most t u).0 (not-true (at_most u t) e)), λ b. ap not ((not-at-most t u).1 (gap_of b)))

-- ---- The order is transitive over a fraction.

-- One "below" on the way makes the whole way "below".
abbrev pub stronger : Strength → Strength → Strength
stronger weakly o = o
stronger strictly o = strictly

through-signs : (i j : Strength) → inside (sum (product (signs i) 1) (product (signs j) 1)) (signs (stronger i j)) ≡ true
unfolding open_signs
through-signs weakly weakly = refl
through-signs weakly strictly = refl
through-signs strictly weakly = refl
through-signs strictly strictly = refl

-- What comes before t comes before what t comes before.
pub through : {i j : Strength} {x y : End} {t : Fraction} → Before i x (at t) → Before j (at t) y → Before (stronger i j) x y
through from_free b = from_free
through (apart h) to_free = to_free
through {i} {j} (apart {t = u} {u = t} h) (apart {u = w} k) = apart (wider (gap-through u t w h k) (through-signs i j))

-- The same with "at most" behind it.
pub through-weakly : {o : Strength} {x y : End} {t : Fraction} → Before o x (at t) → Before weakly (at t) y → Before o x y
through-weakly {o = weakly} = through
through-weakly {o = strictly} = through

-- What is below is at most.
pub as-weak : {o : Strength} {x y : End} → Before strictly x y → Before o x y
unfolding open_signs
as-weak from_free = from_free
as-weak to_free = to_free
as-weak {o = weakly} (apart h) = apart (wider h refl)
as-weak {o = strictly} (apart h) = apart h

-- A fraction is at most itself.
pub to-itself : (t : Fraction) → Before weakly (at t) (at t)
unfolding open_signs
to-itself t = apart (by_equal (no_gap t) (by_sign nought refl refl))

-- ---- The higher of two ends, and the lower.

ordered : (t u : Fraction) → at_most t u ≡ true → Before weakly (at t) (at u)
ordered t u e = apart ((at-most t u).0 e)

turned : (t u : Fraction) → at_most t u ≡ false → Before weakly (at u) (at t)
turned t u e = as-weak (apart ((not-at-most u t).0 e))

-- An end comes after the higher of two exactly if it comes after both.
pub after-higher : {o : Strength} (x : End) (t : Fraction) {y : End} → Before o (higher x t) y ↔ (Before o x y × Before o (at t) y)
unfolding higher either
after-higher free t = (λ b. (from_free, b), λ p. p.1)
after-higher {o} (at u) t {y} = by (at_most u t) (ordered u t) (turned u t)
  where
    by : (b : Bool) → (b ≡ true → Before weakly (at u) (at t)) → (b ≡ false → Before weakly (at t) (at u))
        → Before o (either b t u) y ↔ (Before o (at u) y × Before o (at t) y)
    by true f g = (λ b. (through (f refl) b, b), λ p. p.1)
    by false f g = (λ b. (b, through (g refl) b), λ p. p.0)

-- And before the lower of two exactly if it comes before both.
pub before-lower : (x : End) (t : Fraction) {y : End} → Before weakly y (lower x t) ↔ (Before weakly y x × Before weakly y (at t))
unfolding lower either
before-lower free t {y} = (λ b. (any-free y, b), λ p. p.1)
  where
    any-free : (y : End) → Before weakly y free
    any-free free = from_free
    any-free (at u) = to_free
before-lower (at u) t {y} = by (at_most t u) (ordered t u) (turned t u)
  where
    by : (b : Bool) → (b ≡ true → Before weakly (at t) (at u)) → (b ≡ false → Before weakly (at u) (at t))
        → Before weakly y (either b t u) ↔ (Before weakly y (at u) × Before weakly y (at t))
    by true f g = (λ b. (through b (f refl), b), λ p. p.1)
    by false f g = (λ b. (b, through b (g refl)), λ p. p.0)

-- ---- The same below 0: all ends turned about 0.

-- An end turned about 0.
abbrev pub opposite_end : End → End
opposite_end free = free
opposite_end (at t) = at (opposite t)

-- Turned about 0, two ends change places.
pub opposite-order : {o : Strength} (x y : End) → Before o (opposite_end y) (opposite_end x) ↔ Before o x y
opposite-order free free = (λ b. from_free, λ b. from_free)
opposite-order free (at u) = (λ b. from_free, λ b. to_free)
opposite-order (at t) free = (λ b. to_free, λ b. from_free)
opposite-order (at t) (at u) = (λ b. apart (by_equal (sym (gap-opposite t u)) (gap_of b)), λ b. apart (by_equal (gap-opposite t u) (gap_of b)))

-- Turned twice, it is where it was.
pub opposite-end-twice : (x : End) → opposite_end (opposite_end x) ≡ x
opposite-end-twice free = refl
opposite-end-twice (at t) = ap (λ (c : ℤ). at (record { numerator = c; less = t.less })) (neg_ℤ-neg_ℤ t.numerator)

-- A fraction is at least 0, or above it, by the sign of its numerator.
pub after-zero : {o : Strength} (t : Fraction) → Before o at_zero (at t) ↔ (t.numerator ∈ signs o)
unfolding at_zero
after-zero t = (λ b. by_equal (sym (gap-from-zero t)) (gap_of b), λ h. apart (by_equal (gap-from-zero t) h))
