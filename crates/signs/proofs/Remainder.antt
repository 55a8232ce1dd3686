-- The book's functions on sign sets read the three low bits alone: a number counts as its remainder by 8.
-- So a formula that is right at the eight sets is right for every byte.
use mathlib.Core.Path.{◌≡◌, sym, ap, ◌∙◌}
use Prim.Native.Nat.{ℕ, ◌/◌, ◌%◌}
use native.Mathlib.Omega.{arith}
use lib.Dec.{eqb}
use Rattle.rules.specs.Signs.{Sign, negative, nought, positive, SignSet, only, has, set_of, some_sign, all_signs, sum, product, square, complement, mirror, intersect}
use Rattle.signs.specs.ThreeBits.{three_bits}
use Rattle.signs.specs.declared.ThreeBits.{ThreeBits}

pub has-remainder : (s : Sign) (a : SignSet) → has s (a % 8) ≡ has s a
unfolding has only
has-remainder negative a = let e : a % 8 / 4 % 2 ≡ a / 4 % 2 = omega arith in ap (λ (n : ℕ). eqb n 1) e
has-remainder nought a = let e : a % 8 / 2 % 2 ≡ a / 2 % 2 = omega arith in ap (λ (n : ℕ). eqb n 1) e
has-remainder positive a = let e : a % 8 / 1 % 2 ≡ a / 1 % 2 = omega arith in ap (λ (n : ℕ). eqb n 1) e

pub bits-remainder : (a : SignSet) → three_bits (a % 8) ≡ three_bits a
unfolding three_bits some_sign
bits-remainder a = simp has-remainder

-- the three bits of a are those of its remainder
pub bits_of : {r : ThreeBits} (a x : SignSet) → r ≡ three_bits a → a % 8 ≡ x → r ≡ three_bits x
bits_of a x is e = is ∙ sym (bits-remainder a) ∙ ap three_bits e

pub sum-remainder : (a b : SignSet) → sum (a % 8) (b % 8) ≡ sum a b
unfolding sum all_signs set_of some_sign
sum-remainder a b = simp has-remainder

pub product-remainder : (a b : SignSet) → product (a % 8) (b % 8) ≡ product a b
unfolding product all_signs set_of some_sign
product-remainder a b = simp has-remainder

pub intersect-remainder : (a b : SignSet) → intersect (a % 8) (b % 8) ≡ intersect a b
unfolding intersect set_of
intersect-remainder a b = simp has-remainder

pub square-remainder : (a : SignSet) → square (a % 8) ≡ square a
unfolding square set_of some_sign
square-remainder a = simp has-remainder

pub mirror-remainder : (a : SignSet) → mirror (a % 8) ≡ mirror a
unfolding mirror set_of
mirror-remainder a = simp has-remainder

pub complement-remainder : (a : SignSet) → complement (a % 8) ≡ complement a
unfolding complement set_of
complement-remainder a = simp has-remainder
