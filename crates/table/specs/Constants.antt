-- 01, "Normal form": which forms of the working table are constants, by their counts of terms and by the one term's monomial.
use Rattle.std.specs.Prelude.{◌≡◌, refl, List, ℕ, zero, suc, ◌<◌, eqb, ℤ, pos, get_or}
use Rattle.std.proofs.Math.Option.{none, some}
use Rattle.std.proofs.Common.{arith}
use Rattle.rules.specs.Polynomial.{only_if, constant}
use Rattle.terms.specs.View.{terms_from}

-- More than one term are no constant,
pub many-terms : (cs : List ℤ) (ms : List ℕ) (i k : ℕ) → 1 < k → constant (terms_from cs ms i k) ≡ none
unfolding terms_from constant
many-terms cs ms i zero h = absurd (omega arith)
many-terms cs ms i (suc zero) h = absurd (omega arith)
many-terms cs ms i (suc (suc k)) h = refl

-- none are the constant 0,
pub no_terms : (cs : List ℤ) (ms : List ℕ) (i k : ℕ) → k ≡ 0 → constant (terms_from cs ms i k) ≡ some (pos 0)
unfolding terms_from constant
no_terms cs ms i zero h = refl
no_terms cs ms i (suc k) h = absurd (omega arith)

-- and one is a constant if its monomial is 1.
pub one-term : (cs : List ℤ) (ms : List ℕ) (i k : ℕ) → k ≡ 1 → constant (terms_from cs ms i k) ≡ only_if (eqb (get_or ms i 0) 0) (get_or cs i (pos 0))
unfolding terms_from constant
one-term cs ms i zero h = absurd (omega arith)
one-term cs ms i (suc zero) h = refl
one-term cs ms i (suc (suc k)) h = absurd (omega arith)
