-- What is there, with the rest of the list after it, stays the first list with all of the other's rest.
use Rattle.std.proofs.Common.{◌≡◌, ◌++◌, ◌+◌, ◌-◌, ◌≤◌}
use Rattle.table.specs.Table.{Table, atoms_of, many}
use Rattle.round.specs.Views.{rest}
use Rattle.round.proofs.list.joined.Given as goal

abbrev pub invariant-loop-i : goal.invariant-loop-i
invariant-loop-i l = record {
  all : l.end ≡ many l.list.count;
  fit : l.atoms.count + (l.end - l.i) ≤ 64;
  so_far : (t : Table) → atoms_of t l.atoms ++ rest t l.list l.i ≡ atoms_of t l.initial.atoms ++ rest t l.list l.from;
}
