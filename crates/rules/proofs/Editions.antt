-- What is claimed of `specs/Editions`: theorems by computation, which an edit of a definition breaks.
use Rattle.std.specs.Prelude.{[], ◌≡◌, refl, ◌∷◌, map}
use Rattle.rules.specs.Signs.{open_signs}
use Rattle.rules.specs.Polynomial.{open_polynomial}
use Rattle.rules.specs.Deduce.{open_deduce}
use Rattle.rules.specs.TwoAtoms.{open_two_atoms}
use Rattle.rules.specs.Rounds.{open_rounds}
use Rattle.rules.specs.Formula.{open_formula}
use Rattle.rules.specs.Level.{open_level}
use Rattle.rules.specs.Bits.{open_bits}
use Rattle.rules.specs.Pairs.{open_pairs}
use Rattle.rules.specs.Block.{edition1, edition2, read_block, open_block}
use Rattle.rules.specs.Answer.{answered, formula, answer, open_answer}
use Rattle.rules.specs.Convert.{not_converted, converted, convert, open_convert}
use Rattle.rules.specs.Cases.{case_a}
use Rattle.rules.specs.Editions.{refusal_of, Example, examples, case_a2, short_a2}

pub in-this-order : map (λ (e : Example). refusal_of (read_block e.bytes)) examples ≡ map (λ (e : Example). e.gives) examples
unfolding open_signs open_polynomial open_formula open_bits open_pairs open_block refusal_of examples
in-this-order = refl

pub bytes-of-A2 : answer 37 case_a2 ≡ answered formula short_a2 (record { atoms-in = 2; atoms-out = 1; polynomials-in = 2; polynomials-out = 1 })
unfolding open_signs open_polynomial open_deduce open_two_atoms open_rounds open_formula open_level open_bits open_pairs open_block open_answer case_a2 short_a2
bytes-of-A2 = refl

-- There and back; and 1 if the output is one byte too short for the finished block, an output shorter than the input being fine.
pub conversions-of-A : convert edition2 37 case_a ∷ convert edition1 36 case_a2 ∷ convert edition2 37 case_a2
    ∷ convert edition2 36 case_a ∷ convert edition1 35 case_a2 ∷ []
    ≡ converted case_a2 ∷ converted case_a ∷ converted case_a2 ∷ not_converted 1 ∷ not_converted 1 ∷ []
unfolding open_signs open_polynomial open_formula open_bits open_pairs open_block open_convert case_a case_a2
conversions-of-A = refl
