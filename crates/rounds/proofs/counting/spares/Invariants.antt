-- The signs that the sets passed can lose and those of the rest are those of all.
use Rattle.std.proofs.Common.{◌≡◌, ◌+◌, ◌-◌, ◌*◌, ◌≤◌}
use Rattle.ending_laws.specs.Cuts.{spare_all}
use Rattle.terms.specs.View.{numbers_from}
use Rattle.rounds.proofs.counting.spares.Given as goal

abbrev pub invariant-loop-set : goal.invariant-loop-set
invariant-loop-set l = record {
  so_far : l.sum + spare_all (numbers_from l.fn.sets l.set-index (l.fn.n - l.set-index)) ≡ spare_all (numbers_from l.fn.sets 0 l.fn.n);
  few : l.sum ≤ 2 * l.set-index;
}
