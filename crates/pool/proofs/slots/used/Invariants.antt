-- What is counted and what is left are all that are in use.
use Rattle.std.proofs.Common.{◌≡◌, ◌+◌, ◌≤◌}
use Rattle.pool_laws.specs.Places.{used_slots}
use Rattle.pool.specs.Words.{slots_of}
use Rattle.pool.proofs.Walks.{used_from}
use Rattle.pool.proofs.slots.used.Given as goal

abbrev pub invariant-loop-slot : goal.invariant-loop-slot
invariant-loop-slot l = record { most : l.total ≤ l.slot; left : l.total + used_from l.pool l.slot ≡ used_slots (slots_of l.pool) }
