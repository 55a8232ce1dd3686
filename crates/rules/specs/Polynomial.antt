-- 01, "Signs" and "Normal form": sparse polynomials, their signs by terms, their normal form, constants and variables.
-- A monomial is its exponents, four bits each and the first variable foremost, read as one number.
use Rattle.std.specs.Prelude.{Bool, true, false, not, cond, ◌&&◌, List, [], ◌∷◌, ℕ, zero, suc, ◌-◌, ◌*◌, ◌/◌, ◌%◌, ◌^◌, eqb, ℤ, pos, negsuc, neg_ℤ, nat_abs, length}
use Rattle.std.proofs.Math.Option.{Option, none, some}
use Rattle.std.specs.Int.Signed.{quot_z, non_neg}
use Rattle.rules.specs.Signs.{full, SignSet, sign_of, only, product, sum, square, mirror}

pub record Term : Type 0 where
  pub coefficient : ℤ
  pub monomial : ℕ

abbrev pub Polynomial : Type 0
Polynomial = List Term

-- "An atom says that the sign of a sparse polynomial with whole-number coefficients is in a given set."
pub record Atom : Type 0 where
  pub polynomial : Polynomial
  pub set : SignSet

-- The sign sets of the n variables, in order.
abbrev pub Board : Type 0
Board = List SignSet

-- The exponent of the variable that is followed by so many others.
unfoldable pub exponent : ℕ → ℕ → ℕ
exponent m followers = m / 16 ^ followers % 16

unfoldable pub odd : ℕ → Bool
odd e = eqb (e % 2) 1

-- "For each variable with exponent above 0, multiply by its set if the exponent is odd, by the square of its set if even."
unfoldable pub multiplied : ℕ → SignSet → SignSet → SignSet
multiplied zero set sofar = sofar
multiplied (suc e) set sofar = product sofar (cond (odd (suc e)) set (square set))

unfoldable pub monomial_sign_from : SignSet → Board → ℕ → SignSet
monomial_sign_from sofar [] m = sofar
monomial_sign_from sofar (set ∷ board) m = monomial_sign_from (multiplied (exponent m (length board)) set sofar) board m

-- "Sign of a monomial: start from {positive}."
unfoldable pub monomial_sign : Board → ℕ → SignSet
monomial_sign board m = monomial_sign_from 1 board m

unfoldable pub by_terms_from : SignSet → Board → Polynomial → SignSet
by_terms_from sofar board [] = sofar
by_terms_from sofar board (t ∷ ts) = by_terms_from (sum sofar (product (only (sign_of t.coefficient)) (monomial_sign board t.monomial))) board ts

-- "Sign of a polynomial by terms: start from {zero} and add, for each term, the coefficient's sign times the monomial's."
unfoldable pub by_terms : Board → Polynomial → SignSet
by_terms board p = by_terms_from 2 board p

-- The greatest common divisor, by Euclid's rule; the first number, how many steps it may take, is above the last.
unfoldable pub gcd_within : ℕ → ℕ → ℕ → ℕ
gcd_within zero a b = a
gcd_within (suc k) a zero = a
gcd_within (suc k) a (suc b) = gcd_within k (suc b) (a % suc b)

unfoldable pub gcd : ℕ → ℕ → ℕ
gcd a b = gcd_within (suc b) a b

unfoldable pub content_from : ℕ → Polynomial → ℕ
content_from g [] = g
content_from g (t ∷ ts) = content_from (gcd (nat_abs t.coefficient) g) ts

-- "the greatest common divisor of the coefficients". (No polynomial of a block has the content 0: it is read as 1.)
unfoldable pub or_one : ℕ → ℕ
or_one zero = 1
or_one (suc k) = suc k

unfoldable pub content : Polynomial → ℕ
content p = or_one (content_from 0 p)

unfoldable pub each_coefficient : (ℤ → ℤ) → Polynomial → Polynomial
each_coefficient f [] = []
each_coefficient f (t ∷ ts) = record { coefficient = f t.coefficient; monomial = t.monomial } ∷ each_coefficient f ts

-- "Divide by the greatest common divisor of the coefficients"
unfoldable pub divided : Polynomial → Polynomial
divided p = let g = pos (content p) in each_coefficient (λ c. quot_z c g) p

unfoldable pub first_is_negative : Polynomial → Bool
first_is_negative [] = false
first_is_negative (t ∷ ts) = not (non_neg t.coefficient)

-- "if the first coefficient is negative, negate all and mirror the atom's set"
unfoldable pub turned : Bool → Polynomial → SignSet → Atom
turned true p s = record { polynomial = each_coefficient neg_ℤ p; set = mirror s }
turned false p s = record { polynomial = p; set = s }

unfoldable pub normal : Atom → Atom
normal a = let p = divided a.polynomial in turned (first_is_negative p) p a.set

-- "A constant polynomial makes its atom true or false": its one coefficient. (No terms would be the constant 0.)
unfoldable pub only_if : Bool → ℤ → Option ℤ
only_if true c = some c
only_if false c = none

unfoldable pub constant : Polynomial → Option ℤ
constant [] = some (pos 0)
constant (t ∷ []) = only_if (eqb t.monomial 0) t.coefficient
constant (t ∷ u ∷ us) = none

-- The normal form of a polynomial, which needs no set.
unfoldable pub normal_form : Polynomial → Polynomial
normal_form p = (normal (record { polynomial = p; set = full })).polynomial

-- "Polynomials are the same when their normal forms are equal": equality, term by term.
unfoldable pub same_number : ℤ → ℤ → Bool
same_number (pos a) (pos b) = eqb a b
same_number (pos a) (negsuc b) = false
same_number (negsuc a) (pos b) = false
same_number (negsuc a) (negsuc b) = eqb a b

unfoldable pub same : Polynomial → Polynomial → Bool
same [] [] = true
same [] (u ∷ us) = false
same (t ∷ ts) [] = false
same (t ∷ ts) (u ∷ us) = eqb t.monomial u.monomial && same_number t.coefficient u.coefficient && same ts us

-- "one variable to the power 1": variable i of n, counted from 0.
unfoldable pub variable : ℕ → ℕ → Polynomial
variable n i = record { coefficient = pos 1; monomial = 16 ^ (n - suc i) } ∷ []

-- "A *variable atom* has a normal form that is one variable to the power 1": which variable, if the polynomial is one of the first k.
unfoldable pub first_of : Bool → ℕ → Option ℕ → Option ℕ
first_of true k other = some k
first_of false k other = other

unfoldable pub which_of : ℕ → ℕ → Polynomial → Option ℕ
which_of n zero p = none
which_of n (suc k) p = let other = which_of n k p in first_of (same p (variable n k)) k other

unfoldable pub which : ℕ → Polynomial → Option ℕ
which n p = which_of n n p

-- To unfold this is to unfold every definition of this file.
unfoldable pub open_polynomial : Unit {0}
unfolding exponent odd multiplied monomial_sign_from monomial_sign by_terms_from by_terms gcd_within gcd content_from or_one content each_coefficient divided first_is_negative turned normal normal_form only_if constant same_number same variable first_of which_of which
open_polynomial = tt
