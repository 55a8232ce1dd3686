-- What is claimed of `specs/ReasonCases`: theorems by computation, which an edit of a definition breaks.
use Rattle.std.specs.Prelude.{[], ◌≡◌, refl, ◌∷◌, map}
use Rattle.rules.specs.Signs.{open_signs}
use Rattle.rules.specs.Polynomial.{open_polynomial}
use Rattle.rules.specs.Deduce.{open_deduce}
use Rattle.rules.specs.TwoAtoms.{open_two_atoms}
use Rattle.rules.specs.Rounds.{open_rounds}
use Rattle.rules.specs.Formula.{open_formula}
use Rattle.rules.specs.Level.{open_level}
use Rattle.rules.specs.Bits.{open_bits}
use Rattle.rules.specs.Block.{open_block}
use Rattle.rules.specs.Answer.{looked_up, formula_of}
use Rattle.rules.specs.Reasons.{kept_with, removed_by, reasons, refusal, explained, why, open_reasons}
use Rattle.rules.specs.ReasonCases.{Example, examples, case_A, no_case, every_case}

pub known-reasons : map (λ (e : Example). reasons 2 e.given) examples ≡ map (λ (e : Example). e.gives) examples
unfolding open_signs open_polynomial open_deduce open_two_atoms open_rounds open_level open_reasons examples
known-reasons = refl

-- The reader's refusals, then 19, then 20; a list that is long enough.
pub known-outcomes : why 0 [] ∷ why 0 no_case ∷ why 1 case_A ∷ why 2 case_A ∷ why 0 every_case ∷ []
    ≡ refusal 2 ∷ refusal 19 ∷ refusal 20 ∷ explained (removed_by 4 (1 ∷ []) ∷ kept_with 4 ∷ []) ∷ explained [] ∷ []
unfolding open_signs open_polynomial open_deduce open_two_atoms open_rounds open_formula open_level open_bits open_block looked_up formula_of open_reasons
known-outcomes = refl
