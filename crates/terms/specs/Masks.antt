-- The four masks of a board, and the sign of a monomial from them: 01, "Sign of a monomial", for all variables at once.
-- That this is the book's sign on the board is the law `sign-by-masks` (SignByMasks.antt).
use Rattle.std.specs.Prelude.{◌≡◌, Bool, true, false, not, [], ◌∷◌, ℕ, ◌+◌, ◌*◌, ◌/◌, ◌%◌, ◌^◌, eqb, length}
use Rattle.std.specs.Int.Bits.{bit_and, bit_or}
use Rattle.std.specs.Int.Count.{ones}
use Rattle.rules.specs.Signs.{negative, nought, positive, SignSet, empty, full, has, bit}
use Rattle.rules.specs.Polynomial.{Board}
use Rattle.terms.specs.declared.masks.Masks.{Masks}

-- ---- the masks of a board

-- The variables whose sets pass a test. A variable has one bit, the lowest of the four that its exponent has in a monomial.
unfoldable pub mask : (SignSet → Bool) → Board → ℕ
mask test [] = 0
mask test (s ∷ ss) = bit (test s) * 2 ^ (4 * length ss) + mask test ss

-- k are the masks of a board: all its variables, and those whose sets have the sign
pub record MasksOf (board : Board) (k : Masks) : Type 0 where
  pub all : k.all ≡ mask (λ s. true) board
  pub negative : k.negative ≡ mask (has negative) board
  pub zero : k.zero ≡ mask (has nought) board
  pub positive : k.positive ≡ mask (has positive) board

-- ---- what is asked of two masks

-- x has a variable that y lacks
abbrev pub lacks : ℕ → ℕ → Bool
lacks x y = not (eqb (bit_and x y) x)

-- x and y have a variable in common
abbrev pub meets : ℕ → ℕ → Bool
meets x y = not (eqb (bit_and x y) 0)

-- x and y have an odd number of variables in common
abbrev pub meets_odd : ℕ → ℕ → Bool
meets_odd x y = eqb (ones (bit_and x y) % 2) 1

-- ---- the sign of a monomial

-- A product of sign sets, started from {positive}, by what its factors have: is one empty, has one zero alone, has one zero,
-- has one both negative and positive, are an odd number of them negative?
-- "Anything with the empty set gives the empty set." Else a factor with zero alone gives {zero}. Else the product has zero if a factor has it,
-- and beside it both signs if a factor has both, or the one that goes by the number of negative factors.
abbrev pub product_of : Bool → Bool → Bool → Bool → Bool → SignSet
product_of true alone zero both minus = empty
product_of false true zero both minus = 2
product_of false false true true minus = full
product_of false false true false true = 6
product_of false false true false false = 3
product_of false false false true minus = 5
product_of false false false false true = 4
product_of false false false false false = 1

-- at the lowest of the four bits of an exponent: whether one of the four is set
abbrev pub any_bit : ℕ → ℕ
any_bit m = bit_or (bit_or (bit_or m (m / 2)) (m / 4)) (m / 8)

-- "Sign of a monomial" from masks: the factors are the variables with exponent above 0. The square of a set is empty where the set is, is {zero}
-- where the set is, has zero where the set has it, and is never negative. So the first three questions are asked of every factor, the last two
-- of those with an odd exponent.
unfoldable pub sign_by : Masks → ℕ → SignSet
sign_by k m =
    let factors = bit_and (any_bit m) k.all in
    let odds = bit_and m k.all in
    let nonzero = bit_or k.negative k.positive in
    product_of (lacks factors (bit_or nonzero k.zero)) (lacks factors nonzero) (meets factors k.zero)
    (meets (bit_and odds k.negative) k.positive) (meets_odd odds k.negative)
