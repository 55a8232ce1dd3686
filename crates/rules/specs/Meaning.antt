-- What a condition means: the value of a polynomial at whole numbers, and when a formula holds there; and the same at fractions (request #101).
-- Demand 3 speaks of this: "for each choice of whole numbers for its variables, the answer holds exactly when the original holds".
use Rattle.std.specs.Prelude.{◌≡◌, Bool, true, false, ◌&&◌, ◌||◌, List, [], ◌∷◌, ℕ, zero, suc, ◌+◌, ◌-◌, ◌<◌, max, ℤ, pos, ◌+ℤ◌, ◌*ℤ◌, length}
use Rattle.std.proofs.Common.{arith}
use Rattle.std.proofs.Math.IntN.{pow}
use Rattle.rules.specs.Signs.{Sign, sign_of, has}
use Rattle.rules.specs.Polynomial.{Term, Polynomial, Atom, exponent}
use Rattle.rules.specs.Formula.{Parts, end, atom, and, or, Node, leaf, all_of, any_of}

-- The value of a monomial at the readings: each to the power of its exponent, all multiplied.
unfoldable pub monomial_at : List ℤ → ℕ → ℤ
monomial_at [] m = pos 1
monomial_at (x ∷ readings) m = pow x (exponent m (length readings)) *ℤ monomial_at readings m

-- The value of a polynomial, given the value of each monomial.
unfoldable pub value_by : (ℕ → ℤ) → Polynomial → ℤ
value_by v [] = pos 0
value_by v (t ∷ ts) = t.coefficient *ℤ v t.monomial +ℤ value_by v ts

-- The sign of a polynomial at the readings.
unfoldable pub sign_at : List ℤ → Polynomial → Sign
sign_at readings p = sign_of (value_by (monomial_at readings) p)

-- "An atom says that the sign of a sparse polynomial is in a given set": given the sign of each polynomial, when an atom holds, when all parts hold
-- and when some part holds. "An AND with no children is true, an OR with none is false."
unfoldable pub atom_holds : (Polynomial → Sign) → Atom → Bool
atom_holds sign a = has (sign a.polynomial) a.set

unfoldable mutual
  pub all_hold : (Polynomial → Sign) → Parts Atom → Bool
  all_hold sign end = true
  all_hold sign (atom a rest) = atom_holds sign a && all_hold sign rest
  all_hold sign (and kids rest) = all_hold sign kids && all_hold sign rest
  all_hold sign (or kids rest) = some_hold sign kids && all_hold sign rest

  pub some_hold : (Polynomial → Sign) → Parts Atom → Bool
  some_hold sign end = false
  some_hold sign (atom a rest) = atom_holds sign a || some_hold sign rest
  some_hold sign (and kids rest) = all_hold sign kids || some_hold sign rest
  some_hold sign (or kids rest) = some_hold sign kids || some_hold sign rest

unfoldable pub holds : (Polynomial → Sign) → Node Atom → Bool
holds sign (leaf a) = atom_holds sign a
holds sign (all_of kids) = all_hold sign kids
holds sign (any_of kids) = some_hold sign kids

-- A formula holds at the readings.
unfoldable pub holds_at : List ℤ → Node Atom → Bool
holds_at readings tree = holds (sign_at readings) tree

-- ---- Readings in tenths, or over any other whole number (request #101): a radius of 12.5 m is 125 over 10.

-- "each choice of numerators and one common denominator above 0": n whole numbers of any sign, all over the same whole number.
pub record Choice (n : ℕ) : Type 0 where
  pub numerators : List ℤ
  pub denominator : ℕ
  pub many : length numerators ≡ n
  pub above_zero : 0 < denominator

-- The degree of a monomial of n variables is the sum of its exponents, the total degree of a polynomial the largest among its terms.
unfoldable pub degree : ℕ → ℕ → ℕ
degree zero m = 0
degree (suc n) m = exponent m n + degree n m

unfoldable pub total_degree : ℕ → Polynomial → ℕ
total_degree n [] = 0
total_degree n (t ∷ ts) = max (degree n t.monomial) (total_degree n ts)

-- The value of a monomial at the fractions, multiplied by the denominator to the power d, where d is no less than its degree: a whole number.
unfoldable pub monomial_over : List ℤ → ℕ → ℕ → ℕ → ℤ
monomial_over numerators denominator d m = monomial_at numerators m *ℤ pow (pos denominator) (d - degree (length numerators) m)

-- "the sign of a polynomial being that of its value multiplied by the denominator to the power of its total degree"
unfoldable pub sign_over : List ℤ → ℕ → Polynomial → Sign
sign_over numerators denominator p = sign_of (value_by (monomial_over numerators denominator (total_degree (length numerators) p)) p)

-- A formula holds at a choice of fractions.
unfoldable pub holds_over : {n : ℕ} → Choice n → Node Atom → Bool
holds_over choice tree = holds (sign_over choice.numerators choice.denominator) tree

-- Whole numbers are the fractions over 1.
unfoldable pub whole_numbers : {n : ℕ} (readings : List ℤ) → length readings ≡ n → Choice n
whole_numbers readings many = record { numerators = readings; denominator = 1; many = many; above_zero = omega arith }
