-- What is kept so far, and the rest as it was.
use Rattle.std.proofs.Common.{List, ℕ, ◌≤◌, drop}
use Rattle.tape.specs.Row.{row_of, Lists, Ahead}
use Rattle.table.specs.Table.{Table}
use Rattle.steps.proofs.Merging.{Keeping}
use Rattle.steps.proofs.tidying.without_full.Given as goal

abbrev pub invariant-loop-i : goal.invariant-loop-i
invariant-loop-i l = record {
  small : l.count ≤ l.i;
  ahead : Ahead l.list l.fn.list l.i;
  left : (t : Table) (m : List ℕ) → Lists (row_of l.fn.list l.n) m → Keeping t m (row_of l.list l.count) (drop l.i m);
}
