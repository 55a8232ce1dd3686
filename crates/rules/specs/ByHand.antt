-- Deductions that were followed with a pencil (02, #110): case A's, one with equal fractions, and one where only 0 is listed.
-- docs/BY-HAND.md has the first as a table.
use Rattle.std.specs.Prelude.{◌≡◌, refl, List, [], ◌∷◌, ℕ, ℤ, pos, negsuc}
use Rattle.rules.specs.Signs.{SignSet, open_signs, >0, ≥0, any}
use Rattle.rules.specs.Polynomial.{Term, Polynomial, Atom, Board, open_polynomial}
use Rattle.rules.specs.Deduce.{Fraction, Row, rows, deduce, open_deduce}
use Rattle.rules.specs.Plain.{listed, values, plain_deduce, open_plain}

-- c/d, with d less one
abbrev pub over : ℤ → ℕ → Fraction
over c d = record { numerator = c; less = d }

abbrev term : ℤ → ℕ → Term
term a m = record { coefficient = a; monomial = m }

-- Case A: y² - x + 1 from 2x - 1 < 0, of x and y nothing is known. x is the monomial 16, y² is 2.
abbrev p : Polynomial
p = term (negsuc 0) 16 ∷ term (pos 1) 2 ∷ term (pos 1) 0 ∷ []

abbrev q : Polynomial
q = term (pos 2) 16 ∷ term (negsuc 0) 0 ∷ []

abbrev board : Board
board = 7 ∷ 7 ∷ []

-- The listed fractions are 0, 1/2 and 1; the values -1, 0, 1/3, 1/2, 2/3, 1, 2. At 1/2 all conditions of L hold, so p > 0.
pub case_A :
    (values (rows board p q) ≡ over (negsuc 0) 0 ∷ over (pos 0) 0 ∷ over (pos 1) 2 ∷ over (pos 1) 1 ∷ over (pos 2) 2 ∷ over (pos 1) 0 ∷ over (pos 2) 0 ∷ [])
    × (plain_deduce board p (record { polynomial = q; set = 4 }) ≡ 1)
    × (deduce board p (record { polynomial = q; set = 4 }) ≡ 1)
unfolding open_signs open_polynomial open_deduce open_plain
case_A = (refl, refl, refl)

-- "Equal fractions are one value, whatever their terms": 1/2 and 2/4, and 0 and 0/3.
abbrev pub one : ℤ → ℤ → Row
one a b = record { a = a; b = b; monomial = 0; s = >0 }

pub equal-fractions :
    listed (one (negsuc 0) (pos 2) ∷ one (pos 2) (negsuc 3) ∷ one (pos 0) (pos 3) ∷ []) ≡ over (pos 0) 0 ∷ over (pos 1) 1 ∷ []
unfolding open_signs open_deduce open_plain
equal-fractions = refl
