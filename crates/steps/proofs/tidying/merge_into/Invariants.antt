-- The tokens passed have other polynomials; nothing is stored while the loop goes on.
use Rattle.std.proofs.Common.{◌≡◌, List, ℕ}
use Rattle.tape.specs.Row.{row_of, Lists}
use Rattle.table.specs.Table.{Table, Forms}
use Rattle.steps.proofs.Merging.{Passing}
use Rattle.steps.proofs.tidying.merge_into.Given as goal

abbrev pub invariant-loop-i : goal.invariant-loop-i
invariant-loop-i l = record {
  same : l.list ≡ l.fn.list;
  passing : (t : Table) (m : List ℕ) → Forms t → Lists (row_of l.fn.list l.count) m → Passing t l.token m l.i;
}
