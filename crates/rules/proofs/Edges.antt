-- What is claimed of `specs/Edges`: theorems by computation, which an edit of a definition breaks.
use Rattle.std.specs.Prelude.{[], ◌≡◌, refl, ◌∷◌, map, pos}
use Rattle.std.proofs.Math.IntN.{pow, one}
use Rattle.rules.specs.Signs.{open_signs}
use Rattle.rules.specs.Polynomial.{open_polynomial}
use Rattle.rules.specs.Formula.{open_formula}
use Rattle.rules.specs.Bits.{open_bits}
use Rattle.rules.specs.Block.{open_block}
use Rattle.rules.specs.Answer.{open_answer}
use Rattle.rules.specs.Meaning.{monomial_at, value_by, sign_at, atom_holds, all_hold, some_hold, holds, holds_at}
use Rattle.rules.specs.Evaluate.{refused_by, permit, fits64, evaluate_by, permit_if, evaluate, open_evaluate}
use Rattle.rules.specs.Edges.{Run, runs, too_short, always}

pub at-the-edges : map (λ (r : Run). permit_if (evaluate_by fits64 r.readings r.tree)) runs ≡ map (λ (r : Run). r.gives) runs
unfolding open_signs open_polynomial open_formula open_evaluate monomial_at value_by sign_at atom_holds all_hold some_hold holds holds_at pow one runs
at-the-edges = refl

pub in-this-order : evaluate too_short [] ∷ evaluate always (pos 0 ∷ pos 0 ∷ []) ∷ evaluate always (pos 0 ∷ []) ∷ [] ≡ refused_by 2 ∷ refused_by 16 ∷ permit ∷ []
unfolding open_signs open_polynomial open_formula open_bits open_block open_answer open_evaluate monomial_at value_by sign_at atom_holds all_hold some_hold holds holds_at
in-this-order = refl
