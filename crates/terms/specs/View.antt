-- What the engine's arrays stand for: a run of places is a polynomial, the sets of the first variables are a board.
-- All is read by place, so that no law asks for an array's length.
use Rattle.std.specs.Prelude.{◌≡◌, refl, List, [], ◌∷◌, ℕ, zero, suc, ◌+◌, ◌-◌, ◌<◌, ◌≤◌, ℤ, pos, length, get_or}
use Rattle.std.proofs.Common.{ap, add-one, arith}
use Rattle.rules.specs.Signs.{SignSet}
use Rattle.rules.specs.Polynomial.{Term, Polynomial}
use Rattle.terms.specs.declared.Board.{Board}

-- the number itself, or sixteen if it is above
abbrev pub few : ℕ → ℕ
few n = n - (n - 16)

-- the k numbers from place i on
unfoldable pub numbers_from : List ℕ → ℕ → ℕ → List ℕ
numbers_from xs i zero = []
numbers_from xs i (suc k) = get_or xs i 0 ∷ numbers_from xs (suc i) k

-- the term at place i, and the k terms from place i on
abbrev pub term_at : List ℤ → List ℕ → ℕ → Term
term_at cs ms i = record { coefficient = get_or cs i (pos 0); monomial = get_or ms i 0 }

unfoldable pub terms_from : List ℤ → List ℕ → ℕ → ℕ → Polynomial
terms_from cs ms i zero = []
terms_from cs ms i (suc k) = term_at cs ms i ∷ terms_from cs ms (suc i) k

-- the polynomial at the places from..to
abbrev pub terms_of : List ℤ → List ℕ → ℕ → ℕ → Polynomial
terms_of cs ms from to = terms_from cs ms from (to - from)

-- the sign sets of the variables of a board, of which there are at most sixteen
abbrev pub sets_of : Board → List SignSet
sets_of b = numbers_from b.sets 0 (few b.variables)

-- ---- the first place of a run, and its end

count-step : (i to : ℕ) → i < to → to - i ≡ suc (to - (i + 1))
count-step i to h = omega arith

-- a run that has a place left is its first and the rest
pub terms-cons : (cs : List ℤ) (ms : List ℕ) (i to : ℕ) → i < to → terms_of cs ms i to ≡ term_at cs ms i ∷ terms_of cs ms (i + 1) to
unfolding terms_from
terms-cons cs ms i to h = rw (count-step i to h, add-one i)

pub terms-nil : (cs : List ℤ) (ms : List ℕ) (i to : ℕ) → to ≤ i → terms_of cs ms i to ≡ []
unfolding terms_from
terms-nil cs ms i to h = let e : to - i ≡ 0 = omega arith in rw e

-- the same of numbers
pub numbers-cons : (xs : List ℕ) (i to : ℕ) → i < to → numbers_from xs i (to - i) ≡ get_or xs i 0 ∷ numbers_from xs (i + 1) (to - (i + 1))
unfolding numbers_from
numbers-cons xs i to h = rw (count-step i to h, add-one i)

pub numbers-nil : (xs : List ℕ) (i to : ℕ) → to ≤ i → numbers_from xs i (to - i) ≡ []
unfolding numbers_from
numbers-nil xs i to h = let e : to - i ≡ 0 = omega arith in rw e

pub length-numbers : (xs : List ℕ) (i k : ℕ) → length (numbers_from xs i k) ≡ k
unfolding numbers_from
length-numbers xs i zero = refl
length-numbers xs i (suc k) = ap suc (length-numbers xs (suc i) k)
