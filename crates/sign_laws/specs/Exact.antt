-- The sign algebra is exact, not only sound: each sign of a sum, product or square of sets is taken by whole numbers with signs in these sets.
-- 01, "Signs": "all signs that a sum of whole numbers with such signs can have".
use Rattle.std.specs.Prelude.{◌≡◌, refl, ◌↔◌, ℤ, pos, negsuc, ◌+ℤ◌, ◌*ℤ◌}
use Rattle.std.proofs.Common.{sym, ap₂, ◌∙◌, subst}
use Rattle.rules.specs.Signs.{Sign, negative, nought, positive, sign_of, SignSet, only, has, sum_of_signs, sum, product_of_signs, product, square}
use Rattle.sign_laws.specs.Sets.{◌In◌, only_one, from_all, from-square}
use Rattle.sign_laws.specs.Whole.{◌∈◌, ∈-sum, ∈-product, ∈-square, by_sign, sign-product}

-- A whole number of each sign, and a larger one of the same sign.
abbrev sample : Sign → ℤ
sample negative = negsuc 0
sample nought = pos 0
sample positive = pos 1

abbrev larger : Sign → ℤ
larger negative = negsuc 1
larger nought = pos 0
larger positive = pos 2

sample-sign : (x : Sign) → sign_of (sample x) ≡ x
unfolding sign_of
sample-sign negative = refl
sample-sign nought = refl
sample-sign positive = refl

larger-sign : (x : Sign) → sign_of (larger x) ≡ x
unfolding sign_of
larger-sign negative = refl
larger-sign nought = refl
larger-sign positive = refl

-- ---- Sums: one of three samples has the sign, the two as they are, or one of them larger.

-- Two whole numbers of these signs, and a sum of that sign.
pub record Summed (x y s : Sign) : Type 0 where
  pub first : ℤ
  pub second : ℤ
  pub first_sign : sign_of first ≡ x
  pub second_sign : sign_of second ≡ y
  pub sum_sign : sign_of (first +ℤ second) ≡ s

plain : (x y s : Sign) → sign_of (sample x +ℤ sample y) ≡ s → Summed x y s
plain x y s e = record { first = sample x; second = sample y; first_sign = sample-sign x; second_sign = sample-sign y; sum_sign = e }

more-first : (x y s : Sign) → sign_of (larger x +ℤ sample y) ≡ s → Summed x y s
more-first x y s e = record { first = larger x; second = sample y; first_sign = larger-sign x; second_sign = sample-sign y; sum_sign = e }

summed : (x y s : Sign) → s In sum_of_signs x y → Summed x y s
unfolding sum_of_signs has only sign_of
summed negative positive negative h = more-first negative positive negative refl
summed negative positive nought h = plain negative positive nought refl
summed negative positive positive h = record { first = negsuc 0; second = pos 2; first_sign = refl; second_sign = refl; sum_sign = refl }
summed positive negative negative h = record { first = pos 1; second = negsuc 1; first_sign = refl; second_sign = refl; sum_sign = refl }
summed positive negative nought h = plain positive negative nought refl
summed positive negative positive h = more-first positive negative positive refl
summed negative negative s h = plain negative negative s (sym (only_one h))
summed negative nought s h = plain negative nought s (sym (only_one h))
summed nought negative s h = plain nought negative s (sym (only_one h))
summed nought nought s h = plain nought nought s (sym (only_one h))
summed nought positive s h = plain nought positive s (sym (only_one h))
summed positive nought s h = plain positive nought s (sym (only_one h))
summed positive positive s h = plain positive positive s (sym (only_one h))

-- A sign is in the sum of two sets exactly if two whole numbers with signs in these sets have a sum of that sign.
pub sum-exact : (s : Sign) (a b : SignSet) → (s In sum a b) ↔ ((x : ℤ) × (y : ℤ) × (x ∈ a) × (y ∈ b) × (sign_of (x +ℤ y) ≡ s))
unfolding sum
sum-exact s a b = (
  λ h. from_all sum_of_signs a b h (λ x y p q r. let w = summed x y s r in
      (w.first, w.second, by_sign x w.first_sign p.is, by_sign y w.second_sign q.is, w.sum_sign)),
  (λ h. subst (λ (t : Sign). t In sum a b) h.4 (∈-sum {a = a} {b = b} h.2 h.3).sign),
)

-- ---- Products and squares: the samples do.

-- The same of a product.
pub product-exact : (s : Sign) (a b : SignSet) → (s In product a b) ↔ ((x : ℤ) × (y : ℤ) × (x ∈ a) × (y ∈ b) × (sign_of (x *ℤ y) ≡ s))
unfolding product
product-exact s a b = (
  λ h. from_all (λ x y. only (product_of_signs x y)) a b h (λ x y p q r. (
    sample x,
    sample y,
    by_sign x (sample-sign x) p.is,
    by_sign y (sample-sign y) q.is,
    sign-product (sample x) (sample y) ∙ ap₂ product_of_signs (sample-sign x) (sample-sign y) ∙ sym (only_one r),
  )),
  (λ h. subst (λ (t : Sign). t In product a b) h.4 (∈-product {a = a} {b = b} h.2 h.3).sign),
)

-- And of a square.
pub square-exact : (s : Sign) (a : SignSet) → (s In square a) ↔ ((x : ℤ) × (x ∈ a) × (sign_of (x *ℤ x) ≡ s))
square-exact s a = (
  λ h. from-square a h (λ x p e.
      (sample x, by_sign x (sample-sign x) p.is, sign-product (sample x) (sample x) ∙ ap₂ product_of_signs (sample-sign x) (sample-sign x) ∙ sym e)),
  (λ h. subst (λ (t : Sign). t In square a) h.2 (∈-square {a = a} h.1).sign),
)
