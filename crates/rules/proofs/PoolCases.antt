-- What is claimed of `specs/PoolCases`: theorems by computation, which an edit of a definition breaks.
use Rattle.std.specs.Prelude.{[], ◌≡◌, refl, ◌∷◌}
use Rattle.rules.specs.Signs.{open_signs}
use Rattle.rules.specs.Polynomial.{open_polynomial}
use Rattle.rules.specs.Answer.{open_answer}
use Rattle.rules.specs.Pool.{forms_listed}
use Rattle.rules.specs.Pool.{open_pool}
use Rattle.rules.specs.PoolCases.{x-y, x+1, y+1, first, second, constant_alone}

-- "repeats, multiples and negations count once"
pub forms-listed : (forms_listed first ≡ x-y ∷ x+1 ∷ []) × (forms_listed second ≡ y+1 ∷ x-y ∷ []) × (forms_listed constant_alone ≡ [])
unfolding open_signs open_polynomial open_answer open_pool
forms-listed = (refl, refl, refl)
