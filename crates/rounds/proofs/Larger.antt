-- The larger of the largest number of rounds so far and that of a run: a run that cannot take more need not be counted.
use mathlib.Core.Path.{◌≡◌, sym, ◌∙◌, ap}
use Prim.Native.Nat.{ℕ, ◌+◌, ◌*◌, ◌≤◌, max}
use native.Mathlib.Omega.{arith}
use Rattle.rules.specs.Count.{run_count}
use Rattle.count_laws.specs.AtMost.{list-at-most, no_larger}
use Rattle.table.specs.declared.Atoms.{Atoms}
use Rattle.table.specs.Table.{Table, atoms_of, many}
use Rattle.rounds.specs.declared.Ran.{Ran}
use Rattle.rounds.specs.declared.Counted.{Counted}
use Rattle.rounds.specs.declared.Largest.{Largest}
use Rattle.rounds.specs.Run.{RunOf, CountedRun, LargestRun}
use Rattle.rounds.proofs.Ends.{length-atoms}

-- a run of which no round was begun before
pub from-none : (largest : ℕ) {r x y : ℕ} → r ≡ max largest (0 + x) → x ≡ y → r ≡ max largest y
from-none largest h e = omega (arith, h, e)

module _ (t : Table) (list : Atoms) {largest : ℕ} where
  pub none-larger : 2 * (t.variables + many list.count) + 1 ≤ largest → largest ≡ max largest (run_count t.variables (atoms_of t list))
  none-larger h =
      sym (no_larger (omega (arith, list-at-most t.variables (atoms_of t list), length-atoms t list.number list.set 0 (many list.count))))

module _ {t : Table} (list : Atoms) {largest : ℕ} where
  pub largest-stays : {r : Ran} → RunOf t list r → 2 * (t.variables + many list.count) + 1 ≤ largest
      → LargestRun t list largest (record { contradiction = r.contradiction; largest = largest; state = r.state })
  largest-stays ran h = record {
    outcome = ran.outcome;
    counts = none-larger t list h;
    variables = ran.variables;
    atoms = ran.atoms;
  }

  pub largest-counted : {r : Counted} {k : ℕ} → CountedRun t list r → k ≡ max largest r.begun
      → LargestRun t list largest (record { contradiction = r.contradiction; largest = k; state = r.state })
  unfolding run_count
  largest-counted ran e = record { outcome = ran.outcome; counts = e ∙ ap (max largest) ran.begun; variables = ran.variables; atoms = ran.atoms }

-- with none before it
pub counted-alone : {t : Table} {list : Atoms} {r : Largest} → LargestRun t list 0 r
    → CountedRun t list (record { contradiction = r.contradiction; begun = r.largest; state = r.state })
unfolding run_count
counted-alone ran = record { outcome = ran.outcome; begun = omega (arith, ran.counts); variables = ran.variables; atoms = ran.atoms }
