-- The first of what is left stays the first of all.
use Rattle.std.proofs.Common.{◌≡◌}
use Rattle.rules.specs.Pool.{is_free}
use Rattle.pool_laws.specs.Places.{first_place}
use Rattle.pool.specs.Words.{slots_of}
use Rattle.pool.proofs.Walks.{first_from}
use Rattle.pool.proofs.slots.first_free.Given as goal

abbrev pub invariant-loop-slot : goal.invariant-loop-slot
invariant-loop-slot l = first_from is_free l.pool l.slot ≡ first_place is_free (slots_of l.pool)
