-- The atoms looked through are of other polynomials.
use Rattle.std.proofs.Common.{List, ℕ}
use Rattle.table.specs.Table.{Table, Forms}
use Rattle.tape.specs.Row.{Lists}
use Rattle.merging.proofs.Joining.{Passing}
use Rattle.merging.proofs.merge_into.Given as goal

abbrev pub invariant-loop-i : goal.invariant-loop-i
invariant-loop-i l = (t : Table) (tokens : List ℕ) → Forms t → Lists l.list tokens → Passing t l.token tokens l.i
