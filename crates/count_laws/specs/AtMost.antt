-- Request #108: a run over a list takes at most 2(n + k) + 1 rounds, for k atoms of any kind. Where that is no more than the largest number so far,
-- it need not be counted.
use Rattle.std.specs.Prelude.{◌≡◌, List, [], ◌∷◌, ℕ, ◌+◌, ◌*◌, ◌≤◌, max, length}
use Rattle.std.proofs.Math.Option.{Option, none, some}
use Rattle.std.proofs.Common.{zero-le, arith}
use Rattle.std.proofs.Math.Nat.{max-eq_left}
use Rattle.rules.specs.Polynomial.{Atom, which}
use Rattle.rules.specs.Rounds.{unless_variable, non_variable}
use Rattle.rules.specs.Count.{run_count}
use Rattle.ending_laws.specs.Counts.{run-at-most}

fewer-unless : (o : Option ℕ) (a : Atom) (rest : List Atom) → length (unless_variable o a rest) ≤ 1 + length rest
unfolding unless_variable
fewer-unless none a rest = omega arith
fewer-unless (some i) a rest = omega arith

non-variable-fewer : (n : ℕ) (l : List Atom) → length (non_variable n l) ≤ length l
unfolding non_variable
non-variable-fewer n [] = zero-le
non-variable-fewer n (a ∷ l) = omega (arith, fewer-unless (which n a.polynomial) a (non_variable n l), non-variable-fewer n l)

pub list-at-most : (n : ℕ) (l : List Atom) → run_count n l ≤ 2 * (n + length l) + 1
list-at-most n l = omega (arith, run-at-most n l, non-variable-fewer n l)

-- The larger of two numbers, where the first is no smaller.
pub no_larger : {largest k : ℕ} → k ≤ largest → max largest k ≡ largest
no_larger h = max-eq_left h
