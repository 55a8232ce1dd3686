-- Request #108: "the largest number of rounds that one run of the rounds took, a round that finds a contradiction or no change being counted, and 0 if
-- there was no run". The steps of Level, walked again with its own pieces: each run is asked for the number of rounds begun, nothing else is new.
use Rattle.std.specs.Prelude.{List, [], ◌∷◌, ◌++◌, ℕ, zero, suc, ◌+◌, max}
use Rattle.rules.specs.Polynomial.{Atom}
use Rattle.rules.specs.Rounds.{Outcome, contradiction, settled, begun, start, enough, run, carried}
use Rattle.rules.specs.Formula.{end, atom, Node, leaf, all_of, any_of}
use Rattle.rules.specs.Level.{Placed, plain, plains, Formula, dual, atoms_of, ors_of, Entry, fails, joins, stays, enter, Walk, falls, still, moved, gather, Tidied, broken, tidied, tidy}
use Rattle.rules.specs.Level.{carry, sweep, kept_unless, implied, inner_all, and_rule, or_rule}

-- "the number of rounds begun" in the run over a list
unfoldable pub run_count : ℕ → List Atom → ℕ
run_count n l = let st = start n l in begun n (enough st) st

-- ---- Step 5: "rounds run afresh" on the other remaining atoms, for each atom in order.
unfoldable pub removal_count : ℕ → List Placed → List Placed → ℕ
removal_count n kept [] = 0
removal_count n kept (a ∷ later) =
    let others = plains (kept ++ later) in max (run_count n others) (removal_count n (kept_unless (implied n others (plain a)) a kept) later)

-- ---- Steps 2 to 5 in a row: a node that is false has no further run. "If any did, go to 2": again counts from there.
abbrev pub CountAgain : Type 0
CountAgain = List Placed → List Formula → ℕ

unfoldable pub sweep_count : ℕ → List Placed → Walk → CountAgain → ℕ
sweep_count n l falls again = 0
sweep_count n l (still ors) again = removal_count n [] l
sweep_count n l (moved new ors) again = again (l ++ new) ors

unfoldable pub outcome_count : ℕ → List Placed → Outcome → List Formula → CountAgain → ℕ
outcome_count n l contradiction ors again = 0
outcome_count n l (settled st) ors again = sweep_count n (carry l (carried n st.board (plains l) st.atoms)) (sweep n st ors) again

unfoldable pub tidy_count : ℕ → Tidied → List Formula → CountAgain → ℕ
tidy_count n broken ors again = 0
tidy_count n (tidied l) ors again = max (run_count n (plains l)) (outcome_count n l (run n (plains l)) ors again)

-- At most k turns, as in Level; one more than the inner nodes of the children is enough: law `no-count-missing`.
unfoldable pub settle_count : ℕ → ℕ → List Placed → List Formula → ℕ
settle_count n zero l ors = 0
settle_count n (suc k) l ors = tidy_count n (tidy l) ors (λ (m : List Placed) (later : List Formula). settle_count n k m later)

unfoldable pub settled_count : ℕ → List Placed → List Formula → ℕ
settled_count n l ors = settle_count n (1 + inner_all ors) l ors

-- ---- Step 1: the OR children, in order; "False: the node is false at once, later children untouched", so that these have none.
unfoldable pub unless_fails : Entry → ℕ → ℕ
unless_fails fails later = 0
unless_fails (joins l ors) later = later
unless_fails (stays child) later = later

unfoldable pub gather_count : (Formula → ℕ) → (Formula → Formula) → List Formula → ℕ
gather_count count rule [] = 0
gather_count count rule (child ∷ later) = max (count child) (unless_fails (enter (rule child)) (gather_count count rule later))

unfoldable pub gathered_count : ℕ → List Placed → Walk → ℕ
gathered_count n l falls = 0
gathered_count n l (still ors) = settled_count n l ors
gathered_count n l (moved new ors) = settled_count n (l ++ new) ors

-- The AND rule, with d nestings left; an OR child is one by the AND rule on its dual.
unfoldable pub rule_count : ℕ → ℕ → Formula → ℕ
rule_count n zero kids = 0
rule_count n (suc d) kids =
    max (gather_count (λ (child : Formula). rule_count n d (dual child)) (or_rule n d) (ors_of kids)) (gathered_count n (atoms_of kids) (gather (or_rule n d) (ors_of kids)))

-- The whole tree. "A root atom is an AND of one."
unfoldable pub most_rounds : ℕ → Node Placed → ℕ
most_rounds n (leaf a) = rule_count n 6 (atom a end)
most_rounds n (all_of kids) = rule_count n 6 kids
most_rounds n (any_of kids) = rule_count n 6 (dual kids)

-- To unfold this is to unfold every definition of this file.
unfoldable pub open_count : Unit {0}
unfolding run_count removal_count sweep_count outcome_count tidy_count settle_count settled_count unless_fails gather_count gathered_count rule_count most_rounds
open_count = tt
