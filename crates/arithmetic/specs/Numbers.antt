-- A number by its sign and its magnitude, and what products and sums of such numbers are. It fits 64 signed bits exactly if its magnitude is at most the
-- limit of its sign: 2^63 for a negative number, 2^63 - 1 for any other.
use Rattle.std.specs.Prelude.{◌≡◌, Bool, not, ◌&&◌, [], ◌∷◌, eqb, ℤ, pos, negsuc, neg_ℤ, nat_abs, ◌+ℤ◌, ◌*ℤ◌}
use Rattle.std.proofs.Math.Path.{refl, ap}
use Rattle.std.proofs.Common.{sym, ap₂, ◌∙◌, true≢false, mul-zero, div-lt_iff_lt-mul, le-div_iff_mul-le, arith, lit<}
use Rattle.std.proofs.Math.Bool.{true, false}
use Rattle.std.proofs.Math.Option.{Option, none, some, some-injective, none-ne-some}
use Prim.Native.Nat.{ℕ, zero, suc, ◌+◌, ◌-◌, ◌*◌, ◌/◌, ◌^◌, ◌≤◌, ◌<◌}
use Rattle.std.proofs.Math.Dec.{leb}
use Rattle.std.proofs.Math.IntN.{+ℤ_comm, neg_ℤ-+ℤ}
use borrow.Author.Tests.{leb-true, leb-false, le-leb, lt-leb}
use Rattle.whole.specs.Solver.{#, ◌:+◌, ◌:*◌, neg, solve}
use Rattle.rules.specs.Signs.{sign_of, nought, positive, negative as below}
use Rattle.rules.specs.Block.{minus_bit}
use Rattle.rules.specs.Evaluate.{within, fits64}
use Rattle.arithmetic.specs.declared.Number.{Number}
use Rattle.arithmetic.specs.Checked.{kept_if, fitting, times, plus}

unfoldable pub differ : Bool → Bool → Bool
differ true b = not b
differ false b = b

unfoldable pub both : Bool → Bool → Bool
both true b = b
both false b = false

unfoldable pub limit_of : Bool → ℕ
limit_of true = 9223372036854775808
limit_of false = 9223372036854775807

-- The number that a sign and a magnitude are, and what a `Number` says: some number, or none.
unfoldable pub value_of : Bool → ℕ → ℤ
value_of true m = neg_ℤ (pos m)
value_of false m = pos m

unfoldable pub meaning : Number → Option ℤ
meaning number = kept_if number.fits (value_of number.negative number.magnitude)

-- ---- What fits.

same_tests : (a b c d : ℕ) → (a ≤ b → c ≤ d) → (b < a → d < c) → leb a b ≡ leb c d
same_tests a b c d f g = by (leb a b) refl
  where
    by : (t : Bool) → leb a b ≡ t → t ≡ leb c d
    by true e = sym (le-leb c d (f (leb-true a b e)))
    by false e = sym (lt-leb c d (g (omega (arith, leb-false a b e))))

pub fits-value : (s : Bool) (m : ℕ) → fits64 (value_of s m) ≡ leb m (limit_of s)
unfolding fits64 within value_of limit_of
fits-value false m = refl
fits-value true zero = refl
fits-value true (suc k) = and-true (leb k 9223372036854775807) ∙ same_tests k 9223372036854775807 (suc k) 9223372036854775808 (λ h. omega arith) (λ h. omega arith)
  where
    and-true : (b : Bool) → b && true ≡ b
    and-true true = refl
    and-true false = refl

pub limit-small : (s : Bool) → limit_of s < 2 ^ 64
unfolding limit_of
limit-small true = lit< tt
limit-small false = lit< tt

zero-fits : 0 ≤ limit_of false
zero-fits = omega arith

-- A number at most the limit is kept, one above is not.
pub kept : (s : Bool) (m : ℕ) → m ≤ limit_of s → fitting (value_of s m) ≡ some (value_of s m)
unfolding kept_if
kept s m h = ap (λ (b : Bool). kept_if b (value_of s m)) (fits-value s m ∙ le-leb m (limit_of s) h)

pub lost : (s : Bool) (m : ℕ) → limit_of s < m → fitting (value_of s m) ≡ none
unfolding kept_if
lost s m h = ap (λ (b : Bool). kept_if b (value_of s m)) (fits-value s m ∙ lt-leb m (limit_of s) h)

-- ---- A whole number by its minus bit and its magnitude, and the sign of a number.

whole-value : (x : ℤ) → value_of (eqb (minus_bit x) 1) (nat_abs x) ≡ x
unfolding value_of minus_bit
whole-value (pos n) = refl
whole-value (negsuc n) = refl

pub whole-meaning : (x : ℤ) {minus size : ℕ} → minus ≡ minus_bit x → size ≡ nat_abs x → meaning (record { fits = true; negative = eqb minus 1; magnitude = size }) ≡ some x
unfolding meaning kept_if
whole-meaning x e f = ap some (ap₂ (λ (m k : ℕ). value_of (eqb m 1) k) e f ∙ whole-value x)

-- A number that is some number is its sign and magnitude.
pub meant : (v : Number) (z : ℤ) → meaning v ≡ some z → value_of v.negative v.magnitude ≡ z
unfolding meaning kept_if
meant v z e = by v.fits e
  where
    by : (b : Bool) → kept_if b (value_of v.negative v.magnitude) ≡ some z → value_of v.negative v.magnitude ≡ z
    by true h = some-injective (value_of v.negative v.magnitude) z h
    by false h = absurd (none-ne-some z h)

module _ (v : Number) (z : ℤ) (is : meaning v ≡ some z) where
  pub sign_zero : v.magnitude ≡ 0 → sign_of z ≡ nought
  unfolding value_of sign_of
  sign_zero h = ap sign_of (sym (meant v z is) ∙ ap (value_of v.negative) h) ∙ by v.negative
    where
      by : (s : Bool) → sign_of (value_of s 0) ≡ nought
      by true = refl
      by false = refl

  pub sign-negative : (v.magnitude ≡ 0 → ⊥) → v.negative ≡ true → sign_of z ≡ below
  unfolding value_of sign_of
  sign-negative h n = ap sign_of (sym (meant v z is) ∙ ap (λ (s : Bool). value_of s v.magnitude) n) ∙ by v.magnitude h
    where
      by : (m : ℕ) → (m ≡ 0 → ⊥) → sign_of (neg_ℤ (pos m)) ≡ below
      by zero h = absurd (h refl)
      by (suc m) h = refl

  pub sign-positive : (v.magnitude ≡ 0 → ⊥) → v.negative ≡ false → sign_of z ≡ positive
  unfolding value_of sign_of
  sign-positive h n = ap sign_of (sym (meant v z is) ∙ ap (λ (s : Bool). value_of s v.magnitude) n) ∙ by v.magnitude h
    where
      by : (m : ℕ) → (m ≡ 0 → ⊥) → sign_of (pos m) ≡ positive
      by zero h = absurd (h refl)
      by (suc m) h = refl

-- ---- Products and sums.

pub product_value : (s t : Bool) (a b : ℕ) → value_of s a *ℤ value_of t b ≡ value_of (differ s t) (a * b)
unfolding value_of differ
product_value false false a b = refl
product_value false true a b = solve (pos a ∷ pos b ∷ []) (# 0 :* neg (# 1)) (neg (# 0 :* # 1)) tt
product_value true false a b = solve (pos a ∷ pos b ∷ []) (neg (# 0) :* # 1) (neg (# 0 :* # 1)) tt
product_value true true a b = solve (pos a ∷ pos b ∷ []) (neg (# 0) :* neg (# 1)) (# 0 :* # 1) tt

pub sum-value : (s : Bool) (a b : ℕ) → value_of s a +ℤ value_of s b ≡ value_of s (a + b)
unfolding value_of
sum-value false a b = refl
sum-value true a b = sym (neg_ℤ-+ℤ (pos a) (pos b))

-- The larger magnitude of two signs that differ decides.
pub difference-value : (s : Bool) (a b : ℕ) → b ≤ a → value_of s a +ℤ value_of (not s) b ≡ value_of s (a - b)
unfolding value_of
difference-value s a b h = ap (λ (n : ℕ). value_of s n +ℤ value_of (not s) b) (parts a b h) ∙ by s (a - b)
  where
    parts : (a b : ℕ) → b ≤ a → a ≡ a - b + b
    parts a b h = omega arith

    by : (s : Bool) (c : ℕ) → value_of s (c + b) +ℤ value_of (not s) b ≡ value_of s c
    by false c = solve (pos c ∷ pos b ∷ []) (# 0 :+ # 1 :+ neg (# 1)) (# 0) tt
    by true c = solve (pos c ∷ pos b ∷ []) (neg (# 0 :+ # 1) :+ # 1) (neg (# 0)) tt

-- ---- The product of a number and a factor, by what the limit leaves.

abbrev pub number : Bool → Bool → ℕ → Number
number fits negative magnitude = record { fits = fits; negative = negative; magnitude = magnitude }

-- A number that is none stays none.
times-kept : (fits : Bool) (z x : ℤ) (s : Bool) (m : ℕ) → z *ℤ x ≡ value_of s m → m ≤ limit_of s → kept_if fits (value_of s m) ≡ times (kept_if fits z) x
unfolding times kept_if
times-kept true z x s m e h = sym (ap fitting e ∙ kept s m h)
times-kept false z x s m e h = refl

times_none : (fits : Bool) (z x : ℤ) (s : Bool) (m : ℕ) → z *ℤ x ≡ value_of s m → limit_of s < m → none ≡ times (kept_if fits z) x
unfolding times kept_if
times_none true z x s m e h = sym (ap fitting e ∙ lost s m h)
times_none false z x s m e h = refl

not_zero : (m : ℕ) → (m ≡ 0 → ⊥) → 0 < m
not_zero zero h = absurd (h refl)
not_zero (suc m) h = omega arith

module _ (v : Number) (negative : Bool) (magnitude : ℕ) where
  pub times_zero : magnitude ≡ 0 → meaning (number v.fits false 0) ≡ times (meaning v) (value_of negative magnitude)
  unfolding meaning value_of
  times_zero h = times-kept v.fits (value_of v.negative v.magnitude) (value_of negative magnitude) false 0
      (ap (λ (m : ℕ). value_of v.negative v.magnitude *ℤ value_of negative m) h ∙ product_value v.negative negative v.magnitude 0
      ∙ nothing (differ v.negative negative) v.magnitude) (zero-fits)
    where
      nothing : (s : Bool) (a : ℕ) → value_of s (a * 0) ≡ value_of false 0
      nothing true a = ap (value_of true) (mul-zero a)
      nothing false a = ap (value_of false) (mul-zero a)

  module _ {sign : Bool} (differs : sign ≡ differ v.negative negative) (factor : magnitude ≡ 0 → ⊥) {most : ℕ} (limit : most ≡ limit_of sign) where
    the-product : value_of v.negative v.magnitude *ℤ value_of negative magnitude ≡ value_of sign (v.magnitude * magnitude)
    the-product = product_value v.negative negative v.magnitude magnitude ∙ ap (λ (s : Bool). value_of s (v.magnitude * magnitude)) (sym differs)

    pub times-lost : most / magnitude < v.magnitude → meaning (number false false 0) ≡ times (meaning v) (value_of negative magnitude)
    unfolding meaning kept_if
    times-lost h = times_none v.fits (value_of v.negative v.magnitude) (value_of negative magnitude) sign (v.magnitude * magnitude) the-product
        (rw (← limit) ((div-lt_iff_lt-mul (not_zero magnitude factor)).0 h))

    at-most : v.magnitude ≤ most / magnitude → v.magnitude * magnitude ≤ most
    at-most h = (le-div_iff_mul-le (not_zero magnitude factor)).0 h

    pub product_small : v.magnitude ≤ most / magnitude → v.magnitude * magnitude < 2 ^ 64
    product_small h = omega (arith, at-most h, limit, limit-small sign)

    pub times-kept-by : v.magnitude ≤ most / magnitude → meaning (number v.fits sign (v.magnitude * magnitude)) ≡ times (meaning v) (value_of negative magnitude)
    unfolding meaning
    times-kept-by h = times-kept v.fits (value_of v.negative v.magnitude) (value_of negative magnitude) sign (v.magnitude * magnitude) the-product
        (rw (← limit) (at-most h))

-- ---- The sum of two numbers, by what the limit leaves.

plus-kept : (f g : Bool) (y z : ℤ) (s : Bool) (m : ℕ) → y +ℤ z ≡ value_of s m → m ≤ limit_of s → kept_if (both f g) (value_of s m) ≡ plus (kept_if f y) (kept_if g z)
unfolding plus kept_if both
plus-kept true true y z s m e h = sym (ap fitting e ∙ kept s m h)
plus-kept true false y z s m e h = refl
plus-kept false g y z s m e h = refl

plus_none : (f g : Bool) (y z : ℤ) (s : Bool) (m : ℕ) → y +ℤ z ≡ value_of s m → limit_of s < m → none ≡ plus (kept_if f y) (kept_if g z)
unfolding plus kept_if
plus_none true true y z s m e h = sym (ap fitting e ∙ lost s m h)
plus_none true false y z s m e h = refl
plus_none false g y z s m e h = refl

opposite : (s t : Bool) → differ s t ≡ true → t ≡ not s
unfolding differ
opposite true false e = refl
opposite true true e = absurd (true≢false (sym e))
opposite false true e = refl
opposite false false e = absurd (true≢false (sym e))

agree : (s t : Bool) → differ s t ≡ false → t ≡ s
unfolding differ
agree true true e = refl
agree true false e = absurd (true≢false e)
agree false false e = refl
agree false true e = absurd (true≢false e)

not-not : (s : Bool) → not (not s) ≡ s
not-not true = refl
not-not false = refl

-- What `ranged` makes of a sign and a magnitude that are a sum: the number, or none past the limit.
pub record RangedIs (fits negative : Bool) (magnitude : ℕ) (r : Number) : Type 0 where
  pub within : magnitude ≤ limit_of negative → meaning r ≡ kept_if fits (value_of negative magnitude)
  pub past : limit_of negative < magnitude → meaning r ≡ none

module _ (a b : Number) {fits : Bool} (fit : fits ≡ both a.fits b.fits) where
  -- What is kept or lost of a sum that is such a number.
  by-range : (s : Bool) (m : ℕ) → value_of a.negative a.magnitude +ℤ value_of b.negative b.magnitude ≡ value_of s m → {r : Number} → RangedIs fits s m r
      → meaning r ≡ plus (meaning a) (meaning b)
  unfolding meaning
  by-range s m e {r} ranged = by (leb m (limit_of s)) refl
    where
      by : (t : Bool) → leb m (limit_of s) ≡ t → kept_if r.fits (value_of r.negative r.magnitude) ≡ plus (meaning a) (meaning b)
      by true h = ranged.within (leb-true m (limit_of s) h) ∙ ap (λ (f : Bool). kept_if f (value_of s m)) fit
          ∙ plus-kept a.fits b.fits (value_of a.negative a.magnitude) (value_of b.negative b.magnitude) s m e (leb-true m (limit_of s) h)
      by false h = ranged.past (omega (arith, leb-false m (limit_of s) h))
          ∙ plus_none a.fits b.fits (value_of a.negative a.magnitude) (value_of b.negative b.magnitude) s m e (omega (arith, leb-false m (limit_of s) h))

  -- The signs differ: the larger magnitude decides.
  module _ (signs : differ a.negative b.negative ≡ true) where
    pub second-larger : a.magnitude < b.magnitude → {r : Number} → RangedIs fits b.negative (b.magnitude - a.magnitude) r → meaning r ≡ plus (meaning a) (meaning b)
    second-larger h ranged = by-range b.negative (b.magnitude - a.magnitude)
        (+ℤ_comm (value_of a.negative a.magnitude) (value_of b.negative b.magnitude)
        ∙ ap (λ (s : Bool). value_of b.negative b.magnitude +ℤ value_of s a.magnitude) (sym (not-not a.negative) ∙ ap not (sym (opposite a.negative b.negative signs)))
        ∙ difference-value b.negative b.magnitude a.magnitude (omega arith)) ranged

    pub first-larger : b.magnitude ≤ a.magnitude → {r : Number} → RangedIs fits a.negative (a.magnitude - b.magnitude) r → meaning r ≡ plus (meaning a) (meaning b)
    first-larger h ranged = by-range a.negative (a.magnitude - b.magnitude)
        (ap (λ (s : Bool). value_of a.negative a.magnitude +ℤ value_of s b.magnitude) (opposite a.negative b.negative signs)
        ∙ difference-value a.negative a.magnitude b.magnitude h) ranged

  -- The signs agree: the magnitudes add up, against the rest of the range.
  module _ (signs : differ a.negative b.negative ≡ false) {most : ℕ} (limit : most ≡ limit_of a.negative) where
    the_sum : value_of a.negative a.magnitude +ℤ value_of b.negative b.magnitude ≡ value_of a.negative (a.magnitude + b.magnitude)
    the_sum = ap (λ (s : Bool). value_of a.negative a.magnitude +ℤ value_of s b.magnitude) (agree a.negative b.negative signs)
        ∙ sum-value a.negative a.magnitude b.magnitude

    pub past_first : most < a.magnitude → meaning (number false false 0) ≡ plus (meaning a) (meaning b)
    unfolding meaning kept_if
    past_first h = plus_none a.fits b.fits (value_of a.negative a.magnitude) (value_of b.negative b.magnitude) a.negative
        (a.magnitude + b.magnitude) the_sum (omega (arith, limit))

    pub past-rest : a.magnitude ≤ most → most - a.magnitude < b.magnitude → meaning (number false false 0) ≡ plus (meaning a) (meaning b)
    unfolding meaning kept_if
    past-rest k h = plus_none a.fits b.fits (value_of a.negative a.magnitude) (value_of b.negative b.magnitude) a.negative
        (a.magnitude + b.magnitude) the_sum (omega (arith, limit))

    pub sum-small : a.magnitude ≤ most → b.magnitude ≤ most - a.magnitude → a.magnitude + b.magnitude < 2 ^ 64
    sum-small k h = omega (arith, limit, limit-small a.negative)

    pub in-range : a.magnitude ≤ most → b.magnitude ≤ most - a.magnitude → meaning (number fits a.negative (a.magnitude + b.magnitude)) ≡ plus (meaning a) (meaning b)
    unfolding meaning
    in-range k h = ap (λ (f : Bool). kept_if f (value_of a.negative (a.magnitude + b.magnitude))) fit
        ∙ plus-kept a.fits b.fits (value_of a.negative a.magnitude) (value_of b.negative b.magnitude) a.negative
        (a.magnitude + b.magnitude) the_sum (omega (arith, limit))
