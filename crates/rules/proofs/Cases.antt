-- What is claimed of `specs/Cases`: theorems by computation, which an edit of a definition breaks.
use Rattle.std.specs.Prelude.{[], ◌≡◌, refl, ◌∷◌, map}
use Rattle.rules.specs.Signs.{open_signs}
use Rattle.rules.specs.Polynomial.{Atom, open_polynomial}
use Rattle.rules.specs.Deduce.{open_deduce}
use Rattle.rules.specs.TwoAtoms.{open_two_atoms}
use Rattle.rules.specs.Rounds.{open_rounds}
use Rattle.rules.specs.Formula.{Node, alone, open_formula}
use Rattle.rules.specs.Level.{placed_tree, places, simplify, open_level}
use Rattle.rules.specs.Count.{most_rounds, open_count}
use Rattle.rules.specs.Bits.{open_bits}
use Rattle.rules.specs.Block.{open_block}
use Rattle.rules.specs.Answer.{answered, formula, answer, open_answer}
use Rattle.rules.specs.Report.{report, open_report}
use Rattle.rules.specs.Cases.{short_over, short, Case, cases_ato_c, cases_dto_m, case_n, cases, strict_at_one_point, sum_of_two, two_at_once, rounds_taken, few_runs, turns, PlacesCase, places_cases, case_a, short_a, lines_of_a}

pub strict-at-one-point : map (λ (c : Case). short c.given) strict_at_one_point ≡ map (λ (c : Case). c.gives) strict_at_one_point
unfolding open_signs open_polynomial open_deduce open_two_atoms open_rounds open_formula open_level strict_at_one_point
strict-at-one-point = refl

pub sum-of-two : map (λ (c : Case). short_over 2 c.given) sum_of_two ≡ map (λ (c : Case). c.gives) sum_of_two
unfolding open_signs open_polynomial open_deduce open_two_atoms open_rounds open_formula open_level sum_of_two
sum-of-two = refl

pub two-at-once : map (λ (c : Case). short_over 1 c.given) two_at_once ≡ map (λ (c : Case). c.gives) two_at_once
unfolding open_signs open_polynomial open_deduce open_two_atoms open_rounds open_formula open_level two_at_once
two-at-once = refl

-- Their rounds: a search is no round; what it finds begins another one, unless a set is empty now.
pub rounds-at-once : map (λ (c : Case). most_rounds 1 (placed_tree c.given)) two_at_once ≡ 3 ∷ 1 ∷ 1 ∷ 3 ∷ 3 ∷ []
unfolding open_signs open_polynomial open_deduce open_two_atoms open_rounds open_formula open_level open_count two_at_once
rounds-at-once = refl

pub known-results : map (λ (c : Case). short c.given) cases ≡ map (λ (c : Case). c.gives) cases
unfolding open_signs open_polynomial open_deduce open_two_atoms open_rounds open_formula open_level cases cases_ato_c cases_dto_m case_n
known-results = refl

pub known-rounds : map (λ (c : Case). most_rounds 3 (placed_tree c.given)) cases ≡ rounds_taken
unfolding open_signs open_polynomial open_deduce open_two_atoms open_rounds open_formula open_level open_count cases cases_ato_c cases_dto_m case_n rounds_taken
known-rounds = refl

pub no-run-no-rounds : map (λ (tree : Node Atom). most_rounds 3 (placed_tree tree)) few_runs ≡ 0 ∷ 0 ∷ 1 ∷ 1 ∷ 2 ∷ []
unfolding open_signs open_polynomial open_deduce open_two_atoms open_rounds open_formula open_level open_count few_runs
no-run-no-rounds = refl

pub no-wrong-turn : map (λ (c : Case). short c.given) turns ≡ map (λ (c : Case). c.gives) turns
unfolding open_signs open_polynomial open_deduce open_two_atoms open_rounds open_formula open_level turns
no-wrong-turn = refl

pub known-places : map (λ (c : PlacesCase). places (alone (simplify 3 (placed_tree c.given)))) places_cases ≡ map (λ (c : PlacesCase). c.gives) places_cases
unfolding open_signs open_polynomial open_deduce open_two_atoms open_rounds open_formula open_level places_cases
known-places = refl

pub bytes-of-A : answer 36 case_a ≡ answered formula short_a (record { atoms-in = 2; atoms-out = 1; polynomials-in = 2; polynomials-out = 1 })
unfolding open_signs open_polynomial open_deduce open_two_atoms open_rounds open_formula open_level open_bits open_block open_answer case_a short_a
bytes-of-A = refl

pub printed-for-A : report (answer 36 case_a) ≡ lines_of_a
unfolding open_signs open_polynomial open_deduce open_two_atoms open_rounds open_formula open_level open_bits open_block open_answer open_report case_a lines_of_a
printed-for-A = refl
