-- The first of what is left stays the first of all.
use Rattle.std.proofs.Common.{◌≡◌}
use Rattle.rules.specs.Pool.{stores}
use Rattle.pool_laws.specs.Places.{first_place}
use Rattle.terms.specs.View.{terms_from}
use Rattle.pool.specs.Words.{slots_of}
use Rattle.pool.proofs.Walks.{first_from}
use Rattle.pool.proofs.slots.find.Given as goal

abbrev pub invariant-loop-slot : goal.invariant-loop-slot
invariant-loop-slot l = first_from (stores (terms_from l.coefficient l.monomial l.from l.count)) l.pool l.slot
    ≡ first_place (stores (terms_from l.coefficient l.monomial l.from l.count)) (slots_of l.pool)
