-- No atom that was passed is the polynomial's.
use Rattle.std.proofs.Common.{◌≡◌, ◌-◌}
use Rattle.rules.specs.Rounds.{listed as listed_in}
use Rattle.table.specs.Table.{Table, Forms, form_at, atoms_from, atoms_of, many}
use Rattle.round.proofs.list.listed.Given as goal

abbrev pub invariant-loop-i : goal.invariant-loop-i
invariant-loop-i l = record {
  all : l.end ≡ many l.list.count;
  so_far : (t : Table) → Forms t
      → listed_in (form_at t l.number) (atoms_from t l.list.number l.list.set l.i (l.end - l.i)) ≡ listed_in (form_at t l.number) (atoms_of t l.list);
}
