-- The turns of `settled_count` never run out: the count of steps 2 to 5, with its bounded number of turns, is that of 01, which has no such number.
-- Request #108: "The count equals the number of rounds begun in document 01's description."
use Rattle.std.specs.Prelude.{◌≡◌, List, ◌++◌, ℕ, zero, suc, ◌+◌, ◌*◌, ◌≤◌, ◌<◌, max, length}
use Rattle.std.proofs.Math.Path.{refl, ap}
use Rattle.std.proofs.Common.{◌∙◌, arith}
use Rattle.rules.specs.Polynomial.{Atom}
use Rattle.rules.specs.Rounds.{Outcome, contradiction, settled, start, enough, begun, run, non_variable}
use Rattle.rules.specs.Level.{Placed, plains, Formula, Walk, falls, still, moved, Tidied, broken, tidied, tidy, sweep, inner_all}
use Rattle.rules.specs.Count.{run_count, CountAgain, sweep_count, outcome_count, tidy_count, settle_count, settled_count}
use Rattle.ending_laws.specs.Rounds.{Run, run_ends, at-most-for-list}
use Rattle.ending_laws.specs.Turns.{Fewer, sweep-fewer}

-- ---- One run.

-- It is the number of rounds that 01's run over the list begins.
pub run-counted : (n : ℕ) (l : List Atom) → Run n (start n l) (run_count n l) (run n l)
unfolding run_count
run-counted n l = run_ends n l

-- At most 2(n + k) + 1, for n variables and k non-variable atoms.
pub run-at-most : (n : ℕ) (l : List Atom) → run_count n l ≤ 2 * (n + length (non_variable n l)) + 1
unfolding run_count
run-at-most n l = at-most-for-list n l

-- ---- Two ways back that agree on children with fewer inner nodes count the same.

module _ (n : ℕ) (ors : List Formula) (f g : CountAgain) (agree : (m : List Placed) (left : List Formula) → inner_all left < inner_all ors → f m left ≡ g m left) where
  sweep_count-same : (l : List Placed) (walk : Walk) → Fewer (inner_all ors) walk → sweep_count n l walk f ≡ sweep_count n l walk g
  unfolding Fewer sweep_count
  sweep_count-same l falls fewer = refl
  sweep_count-same l (still left) fewer = refl
  sweep_count-same l (moved new left) fewer = agree (l ++ new) left fewer

  outcome_count-same : (l : List Placed) (outcome : Outcome) → outcome_count n l outcome ors f ≡ outcome_count n l outcome ors g
  unfolding outcome_count
  outcome_count-same l contradiction = refl
  outcome_count-same l (settled st) = sweep_count-same _ (sweep n st ors) (sweep-fewer n st ors)

  tidy_count-same : (t : Tidied) → tidy_count n t ors f ≡ tidy_count n t ors g
  unfolding tidy_count
  tidy_count-same broken = refl
  tidy_count-same (tidied l) = ap (max (run_count n (plains l))) (outcome_count-same l (run n (plains l)))

-- Any two numbers of turns above the inner nodes of the OR children count the same.
pub enough-counted : (n k j : ℕ) (l : List Placed) (ors : List Formula) → inner_all ors < k → inner_all ors < j → settle_count n k l ors ≡ settle_count n j l ors
unfolding settle_count
enough-counted n zero j l ors h i = absurd (omega arith)
enough-counted n (suc k) zero l ors h i = absurd (omega arith)
enough-counted n (suc k) (suc j) l ors h i =
    tidy_count-same n ors _ _ (λ m left fewer. enough-counted n k j m left (omega arith) (omega arith)) (tidy l)

-- Steps 2 to 5 as 01 says them, with no number of turns: the way back is the steps themselves.
pub no-count-missing : (n : ℕ) (l : List Placed) (ors : List Formula) → settled_count n l ors ≡ tidy_count n (tidy l) ors (settled_count n)
unfolding settle_count settled_count
no-count-missing n l ors =
    enough-counted n (1 + inner_all ors) (suc (inner_all ors)) l ors (omega arith) (omega arith)
    ∙ tidy_count-same n ors _ _ (λ m left fewer. enough-counted n (inner_all ors) (1 + inner_all left) m left fewer (omega arith)) (tidy l)
