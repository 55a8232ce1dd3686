-- One atom of step 5 and the run over the others: what is asked, and what its count ensures.
use Rattle.std.specs.Prelude.{◌≡◌, Bool, ◌++◌, ℕ, ◌+◌, ◌-◌, ◌<◌, ◌≤◌, max}
use Rattle.rules.specs.Level.{kept_unless}
use Rattle.rules.specs.Count.{run_count}
use Rattle.table.specs.declared.Atoms.{Atoms}
use Rattle.table.specs.Table.{Table, atom_at, atoms_of, many}
use Rattle.round.specs.declared.State.{State}
use Rattle.round.specs.Views.{rest}
use Rattle.rounds.specs.Afresh.{AfreshFrom}
use Rattle.common_run.specs.declared.counting.Counting.{Counting}
use Rattle.common_run.specs.Known.{Known}

-- the atoms kept so far and those of the list from i on remain, some of those that carry the sets of the settled state; the others are without the
-- one at i
pub record Remain (t : Table) (settled : State) (kept list : Atoms) (i : ℕ) (others : Atoms) : Type 0 where
  pub low : i < many list.count
  pub room : kept.count + (many list.count - i) ≤ 64
  pub afresh : AfreshFrom t settled (atoms_of t kept ++ rest t list i)
  pub are : atoms_of t others ≡ atoms_of t kept ++ rest t list (i + 1)

-- the run over the others is counted, and what is known of the common run holds of the atoms that remain then
pub record CountedOne (t : Table) (settled : State) (kept list : Atoms) (i : ℕ) (others : Atoms) (largest : ℕ) (out : Bool)
    (r : Counting) : Type 0 where
  pub counts : r.rounds ≡ max largest (run_count t.variables (atoms_of t others))
  pub known : Known t settled (kept_unless out (atom_at t list.number list.set i) (atoms_of t kept) ++ rest t list (i + 1)) r.common
