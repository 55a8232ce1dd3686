-- What is claimed of `specs/Tenths`: theorems by computation, which an edit of a definition breaks.
use Rattle.std.specs.Prelude.{[], ◌≡◌, refl, ℤ, true, false, List, ◌∷◌, map, ℕ, zero, suc, ◌+◌, ◌*◌, ◌<◌, pos}
use Rattle.std.proofs.Common.{ap, arith, ◌∙◌}
use Rattle.std.proofs.Math.IntN.{pow, one, ◌*ℤ◌}
use Rattle.rules.specs.Signs.{nought, negative, positive, sign_of}
use Rattle.rules.specs.Polynomial.{exponent}
use Rattle.rules.specs.Block.{Block, Stream, read}
use Rattle.rules.specs.Answer.{Counts, answered, always, unsatisfiable, formula_of}
use Rattle.rules.specs.Meaning.{Choice, monomial_at, value_by, degree, total_degree, monomial_over, sign_over, holds_over}
use Rattle.rules.specs.Demands.{SameLifts}
use Rattle.rules.specs.Tenths.{twice_radius, moment, three_degrees}

pub in-tenths : map (sign_over (pos 125 ∷ pos 36 ∷ []) 10) (twice_radius ∷ moment ∷ three_degrees ∷ []) ≡ nought ∷ nought ∷ negative ∷ []
unfolding sign_over sign_of value_by monomial_over monomial_at total_degree degree exponent pow one
in-tenths = refl

-- It is above 0, so that a value multiplied by it keeps its sign.
pub power-above-zero : {n : ℕ} (choice : Choice n) (k : ℕ) → sign_of (pow (pos choice.denominator) k) ≡ positive
unfolding sign_of pow one
power-above-zero choice k = ap sign_of (natural choice.denominator choice.above_zero k).1
  where
    product : (m d : ℕ) → 0 < d → (j : ℕ) × (suc m * d ≡ suc j)
    product m zero h = absurd (omega arith)
    product m (suc d) h = (d + m * suc d, omega arith)

    natural : (d : ℕ) → 0 < d → (k : ℕ) → (m : ℕ) × (pow (pos d) k ≡ pos (suc m))
    natural d h zero = (0, refl)
    natural d h (suc k) = let (m, e) = natural d h k in let (j, f) = product m d h in (j, ap (λ (z : ℤ). z *ℤ pos d) e ∙ ap pos f)

-- ALWAYS: the original holds at every choice of fractions.
pub always-everywhere : (given : Block) (stream : Stream) (bytes : List ℕ) (counts : Counts) → SameLifts (read given stream) (answered always bytes counts)
    → (choice : Choice given.variables) → holds_over choice (formula_of given) ≡ true
unfolding SameLifts
always-everywhere given stream bytes counts same choice = (same choice).1 refl

-- UNSATISFIABLE: at none.
pub unsatisfiable-everywhere : (given : Block) (stream : Stream) (bytes : List ℕ) (counts : Counts)
    → SameLifts (read given stream) (answered unsatisfiable bytes counts) → (choice : Choice given.variables) → holds_over choice (formula_of given) ≡ false
unfolding SameLifts
unsatisfiable-everywhere given stream bytes counts same choice = (same choice).2 refl
