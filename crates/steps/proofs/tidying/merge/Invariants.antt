-- What is merged so far, and the rest as it was.
use Rattle.std.proofs.Common.{List, ℕ, ◌≤◌, drop}
use Rattle.tape.specs.Row.{row_of, Lists, Ahead}
use Rattle.round.specs.Views.{table_of}
use Rattle.steps.proofs.Merging.{Merging}
use Rattle.steps.proofs.tidying.merge.Given as goal

abbrev pub invariant-loop-i : goal.invariant-loop-i
invariant-loop-i l = record {
  small : l.count ≤ l.i;
  ahead : Ahead l.list l.fn.list l.i;
  left : (m : List ℕ) → Lists (row_of l.fn.list l.n) m → Merging (table_of l.coefficient l.monomial l.terms l.variables) m (row_of l.list l.count) (drop l.i m);
}
