-- The signs of whole numbers: a sum, a product, a square and a negation have a sign of the sum, product, square and mirror of their sets.
-- `z ∈ set` says that the sign of z is in the set.
use Rattle.std.specs.Prelude.{◌≡◌, refl, true, ℕ, zero, suc, ◌+◌, ◌*◌, ◌<◌, ℤ, pos, negsuc, neg_ℤ, ◌+ℤ◌, ◌*ℤ◌}
use Rattle.std.proofs.Common.{sym, ap, ◌∙◌, subst, arith}
use Rattle.std.proofs.Math.IntN.{+ℤ_idl, +ℤ_idr, zero-*ℤ, *ℤ-zero}
use Rattle.rules.specs.Signs.{Sign, negative, nought, positive, sign_of, SignSet, empty, full, only, has, sum_of_signs, sum, product_of_signs, product, square}
use Rattle.rules.specs.Signs.{mirror_of_sign, mirror, intersect, inside}
use Rattle.sign_laws.specs.Sets.{◌In◌, in-full, in-empty, in-only, only_one, in-intersect, in-inside, in-mirror, in_all, in-square}

-- The sign of the number is in the set.
infix 4 ◌∈◌
pub record ◌∈◌ (z : ℤ) (a : SignSet) : Type 0 where
  pub sign : sign_of z In a

-- ---- The sign of a sum, a product, a negation.

-- A number above 0 is positive.
pub sign_pos : (n : ℕ) → 0 < n → sign_of (pos n) ≡ positive
unfolding sign_of
sign_pos zero h = absurd (omega arith)
sign_pos (suc n) h = refl

sign-neg : (n : ℕ) → 0 < n → sign_of (neg_ℤ (pos n)) ≡ negative
unfolding sign_of
sign-neg zero h = absurd (omega arith)
sign-neg (suc n) h = refl

from-sign : {x y : Sign} {a : SignSet} → x ≡ y → y In a → x In a
from-sign {a = a} e h = subst (λ s. s In a) (sym e) h

-- The sign of a sum is one of those that the signs' sum has.
pub sign-sum : (x y : ℤ) → sign_of (x +ℤ y) In sum_of_signs (sign_of x) (sign_of y)
unfolding sum_of_signs sign_of only has
sign-sum (pos zero) (pos zero) = record { is = refl }
sign-sum (pos zero) (pos (suc b)) = from-sign (sign_pos (0 + suc b) (omega arith)) (record { is = refl })
sign-sum (pos zero) (negsuc b) = from-sign (ap sign_of (+ℤ_idl (negsuc b))) (record { is = refl })
sign-sum (pos (suc a)) (pos zero) = from-sign (sign_pos (suc a + 0) (omega arith)) (record { is = refl })
sign-sum (pos (suc a)) (pos (suc b)) = from-sign (sign_pos (suc a + suc b) (omega arith)) (record { is = refl })
sign-sum (pos (suc a)) (negsuc b) = in-full (sign_of (pos (suc a) +ℤ negsuc b))
sign-sum (negsuc a) (pos zero) = from-sign (ap sign_of (+ℤ_idr (negsuc a))) (record { is = refl })
sign-sum (negsuc a) (pos (suc b)) = in-full (sign_of (negsuc a +ℤ pos (suc b)))
sign-sum (negsuc a) (negsuc b) = record { is = refl }

-- The sign of a product is the product of the signs.
pub sign-product : (x y : ℤ) → sign_of (x *ℤ y) ≡ product_of_signs (sign_of x) (sign_of y)
unfolding product_of_signs sign_of
sign-product (pos zero) (pos zero) = refl
sign-product (pos zero) (pos (suc b)) = ap sign_of (zero-*ℤ (pos (suc b)))
sign-product (pos zero) (negsuc b) = ap sign_of (zero-*ℤ (negsuc b))
sign-product (pos (suc a)) (pos zero) = ap sign_of (*ℤ-zero (pos (suc a)))
sign-product (pos (suc a)) (pos (suc b)) = sign_pos (suc a * suc b) (omega arith)
sign-product (pos (suc a)) (negsuc b) = sign-neg (suc a * suc b) (omega arith)
sign-product (negsuc a) (pos zero) = ap sign_of (*ℤ-zero (negsuc a))
sign-product (negsuc a) (pos (suc b)) = sign-neg (suc a * suc b) (omega arith)
sign-product (negsuc a) (negsuc b) = sign_pos (suc a * suc b) (omega arith)

-- The sign of a negation is the mirrored sign.
pub sign-negation : (z : ℤ) → sign_of (neg_ℤ z) ≡ mirror_of_sign (sign_of z)
unfolding sign_of mirror_of_sign
sign-negation (pos zero) = refl
sign-negation (pos (suc n)) = refl
sign-negation (negsuc n) = refl

-- Times positive, a sign stays as it is.
pub times-positive : (s : Sign) → product_of_signs s positive ≡ s
unfolding product_of_signs
times-positive negative = refl
times-positive nought = refl
times-positive positive = refl

-- ---- The same of sets.

-- A sum has a sign of the sum of the sets.
pub ∈-sum : {x y : ℤ} {a b : SignSet} → x ∈ a → y ∈ b → x +ℤ y ∈ sum a b
unfolding sum
∈-sum {x} {y} h k = record { sign = in_all sum_of_signs h.sign k.sign (sign-sum x y) }

-- A product has a sign of the product of the sets.
pub ∈-product : {x y : ℤ} {a b : SignSet} → x ∈ a → y ∈ b → x *ℤ y ∈ product a b
unfolding product
∈-product {x} {y} h k = record { sign = in_all (λ x y. only (product_of_signs x y)) h.sign k.sign (from-sign (sign-product x y) (in-only _)) }

-- A square has a sign of the square of the set.
pub ∈-square : {x : ℤ} {a : SignSet} → x ∈ a → x *ℤ x ∈ square a
∈-square {x} h = record { sign = from-sign (sign-product x x) (in-square h.sign) }

-- A negation has a sign of the mirrored set.
pub ∈-negation : {x : ℤ} {a : SignSet} → x ∈ a → neg_ℤ x ∈ mirror a
∈-negation {x} h = record { sign = from-sign (sign-negation x) (in-mirror h.sign) }

-- A number with a sign of both sets has a sign of the intersection.
pub ∈-intersect : {x : ℤ} {a b : SignSet} → x ∈ a → x ∈ b → x ∈ intersect a b
∈-intersect h k = record { sign = in-intersect h.sign k.sign }

-- Every number has a sign of the full set.
pub ∈-full : (x : ℤ) → x ∈ full
∈-full x = record { sign = in-full (sign_of x) }

-- And of the set of its own sign.
pub ∈-own : (x : ℤ) → x ∈ only (sign_of x)
∈-own x = record { sign = in-only (sign_of x) }

-- ---- Ways to the fact.

-- By computation, where the sign is known: `by_sign positive refl refl`.
pub by_sign : {x : ℤ} {a : SignSet} (s : Sign) → sign_of x ≡ s → has s a ≡ true → x ∈ a
by_sign s e h = record { sign = from-sign e (record { is = h }) }

-- By an equal number.
pub by_equal : {x y : ℤ} {a : SignSet} → x ≡ y → y ∈ a → x ∈ a
by_equal {a = a} e h = subst (λ z. z ∈ a) (sym e) h

-- By a number of the same sign.
pub by-same-sign : {x y : ℤ} {a : SignSet} → sign_of x ≡ sign_of y → y ∈ a → x ∈ a
by-same-sign e h = record { sign = from-sign e h.sign }

-- What has a sign of {positive} is positive.
pub is_positive : {x : ℤ} → x ∈ 1 → sign_of x ≡ positive
unfolding only
is_positive h = only_one h.sign

-- A factor above 0 leaves the sign as it is.
pub sign-times : (x : ℤ) {y : ℤ} → y ∈ 1 → sign_of (x *ℤ y) ≡ sign_of x
sign-times x {y} p = sign-product x y ∙ ap (product_of_signs (sign_of x)) (is_positive p) ∙ times-positive (sign_of x)

-- So it can go.
pub without-factor : {x y : ℤ} {a : SignSet} → y ∈ 1 → x *ℤ y ∈ a → x ∈ a
without-factor {x} p h = by-same-sign (sym (sign-times x p)) h

-- Two sets with nothing in common: `clash h k refl`.
pub clash : {X : Type 0} {x : ℤ} {a b : SignSet} → x ∈ a → x ∈ b → intersect a b ≡ empty → X
clash {x = x} h k e = in-empty (subst (λ (c : SignSet). sign_of x In c) e (in-intersect h.sign k.sign))

-- A set inside another: `wider h refl`.
pub wider : {x : ℤ} {a b : SignSet} → x ∈ a → inside a b ≡ true → x ∈ b
wider {a = a} {b = b} h e = record { sign = in-inside a b e h.sign }
