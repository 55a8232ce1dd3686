-- 01, "Signs": the eight sign sets, and the signs that sums, products and squares of whole numbers can have.
-- A set is a number from 0 to 7: three bits for negative, zero and positive, in that order.
use Rattle.std.specs.Prelude.{Bool, true, false, not, ◌&&◌, ◌||◌, List, [], ◌∷◌, ℕ, zero, suc, ◌+◌, ◌*◌, ◌/◌, ◌%◌, eqb, ℤ, pos, negsuc, get_or}

-- The three signs; nought is the sign of 0.
pub data Sign : Type 0 where
  negative nought positive : Sign

unfoldable pub sign_of : ℤ → Sign
sign_of (pos zero) = nought
sign_of (pos (suc n)) = positive
sign_of (negsuc n) = negative

-- "A sign set is a part of {negative, zero, positive}, stored in three bits in that order".
abbrev pub SignSet : Type 0
SignSet = ℕ

-- "The empty set and the full set are named once with the kind of value itself."
abbrev pub empty : SignSet
empty = 0

abbrev pub full : SignSet
full = 7

-- The set that holds one sign, which is the weight of that sign's bit.
unfoldable pub only : Sign → SignSet
only negative = 4
only nought = 2
only positive = 1

unfoldable pub has : Sign → SignSet → Bool
has s a = eqb (a / only s % 2) 1

-- The set of the signs that pass a test.
unfoldable pub bit : Bool → ℕ
bit true = 1
bit false = 0

unfoldable pub set_of : (Sign → Bool) → SignSet
set_of f = bit (f negative) * 4 + bit (f nought) * 2 + bit (f positive)

unfoldable pub some_sign : (Sign → Bool) → Bool
some_sign f = f negative || f nought || f positive

-- "< is 4, = is 2, ≤ is 6, > is 1, ≠ is 5, ≥ is 3, empty is 0, full is 7": the eight sets by their names.
pub data Kind : Type 0 where
  ∅ >0 =0 ≥0 <0 ≠0 ≤0 any : Kind

unfoldable pub named : Kind → SignSet
named ∅ = empty
named >0 = 1
named =0 = 2
named ≥0 = 3
named <0 = 4
named ≠0 = 5
named ≤0 = 6
named any = full

unfoldable pub kind : SignSet → Kind
kind s = get_or (∅ ∷ >0 ∷ =0 ∷ ≥0 ∷ <0 ∷ ≠0 ∷ ≤0 ∷ any ∷ []) s any

-- "Sum of two sets: all signs that a sum of whole numbers with such signs can have (negative plus positive: all three)."
unfoldable pub sum_of_signs : Sign → Sign → SignSet
sum_of_signs negative negative = 4
sum_of_signs negative nought = 4
sum_of_signs negative positive = full
sum_of_signs nought negative = 4
sum_of_signs nought nought = 2
sum_of_signs nought positive = 1
sum_of_signs positive negative = full
sum_of_signs positive nought = 1
sum_of_signs positive positive = 1

-- All signs that f gives for a sign of a and a sign of b. "Anything with the empty set gives the empty set."
unfoldable pub all_signs : (Sign → Sign → SignSet) → SignSet → SignSet → SignSet
all_signs f a b = set_of (λ s. some_sign (λ x. has x a && some_sign (λ y. has y b && has s (f x y))))

unfoldable pub sum : SignSet → SignSet → SignSet
sum a b = all_signs sum_of_signs a b

-- "Product and square likewise."
unfoldable pub product_of_signs : Sign → Sign → Sign
product_of_signs negative negative = positive
product_of_signs negative nought = nought
product_of_signs negative positive = negative
product_of_signs nought negative = nought
product_of_signs nought nought = nought
product_of_signs nought positive = nought
product_of_signs positive negative = negative
product_of_signs positive nought = nought
product_of_signs positive positive = positive

unfoldable pub product : SignSet → SignSet → SignSet
product a b = all_signs (λ x y. only (product_of_signs x y)) a b

unfoldable pub square : SignSet → SignSet
square a = set_of (λ s. some_sign (λ x. has x a && has s (only (product_of_signs x x))))

-- "Complement is definition 7."
unfoldable pub complement : SignSet → SignSet
complement a = set_of (λ s. not (has s a))

-- "mirror the atom's set (negative and positive exchanged)"
unfoldable pub mirror_of_sign : Sign → Sign
mirror_of_sign negative = positive
mirror_of_sign nought = nought
mirror_of_sign positive = negative

unfoldable pub mirror : SignSet → SignSet
mirror a = set_of (λ s. has (mirror_of_sign s) a)

-- The intersection of two sets, and "lies inside".
unfoldable pub intersect : SignSet → SignSet → SignSet
intersect a b = set_of (λ s. has s a && has s b)

unfoldable pub inside : SignSet → SignSet → Bool
inside a b = eqb (intersect a b) a

-- To unfold this is to unfold every definition of this file.
unfoldable pub open_signs : Unit {0}
unfolding sign_of only has bit set_of some_sign named kind sum_of_signs all_signs sum product_of_signs product square complement mirror_of_sign mirror intersect inside
open_signs = tt
