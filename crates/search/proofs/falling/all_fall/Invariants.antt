-- The forms of the atoms so far fall.
use Rattle.std.proofs.Common.{ℕ, ◌<◌}
use Rattle.round.specs.Signing.{atom_slot}
use Rattle.search.specs.Falling.{FallingSlot}
use Rattle.search.proofs.falling.all_fall.Given as goal

abbrev pub invariant-loop-i : goal.invariant-loop-i
invariant-loop-i l = (j : ℕ) → j < l.i → FallingSlot l.monomial l.terms (atom_slot l.atoms.number j)
