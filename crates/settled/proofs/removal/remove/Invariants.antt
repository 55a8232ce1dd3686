-- What is left of the list goes on from the atoms that remain so far, and so does what is known of a common run: none, where each run is counted by itself.
use Rattle.std.proofs.Common.{◌≡◌, true, false, ◌++◌}
use Rattle.turn_laws.specs.Some.{Some}
use Rattle.table.specs.Table.{atoms_of}
use Rattle.round.specs.Views.{table_of, state_of, rest}
use Rattle.common_run.specs.Known.{Known}
use Rattle.settled.proofs.Removing.{Removing, Counting}
use Rattle.settled.proofs.removal.remove.Given as goal

abbrev pub invariant-loop-i : goal.invariant-loop-i
invariant-loop-i l =
    let t = table_of l.coefficient l.monomial l.terms l.variables in
    record {
      removing : Removing t (state_of t l.state) l.list l.i l.kept;
      some : Some (atoms_of t l.list) (atoms_of t l.kept.atoms ++ rest t l.list l.i);
      counting : Counting t (state_of t l.state) l.list l.largest l.i l.kept l.counting.rounds;
      known : Known t l.state (atoms_of t l.kept.atoms ++ rest t l.list l.i) l.counting.common;
      alone : l.by_common ≡ false → l.counting.common.known ≡ true → ⊥;
    }
