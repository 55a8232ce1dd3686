-- What is left of the atoms passed, and the rest.
use Rattle.std.proofs.Common.{◌≡◌, List, ℕ, ◌-◌, ◌≤◌, length, take, drop}
use Rattle.tape.specs.Row.{row_of, Lists}
use Rattle.round.specs.Views.{table_of}
use Rattle.steps.proofs.Atomwise.{Pruning}
use Rattle.steps.proofs.sweeping.prune.Given as goal

abbrev pub invariant-loop-token : goal.invariant-loop-token
invariant-loop-token l = record {
  room : length l.left ≡ 256;
  small : l.count ≤ l.token-index;
  left : (k : ℕ) (m : List ℕ) → Lists (row_of l.row k) m → l.to ≤ length m
      → let all = take (l.to - l.from) (drop l.from m) in Pruning (table_of l.coefficient l.monomial l.terms l.variables) l.state all (row_of l.left l.count) (drop l.token-index all);
}
