-- The variables so far have their floor's sets.
use Rattle.std.proofs.Common.{◌≡◌, ℕ, ◌<◌, get_or}
use Rattle.search.proofs.variables.above.Given as goal

abbrev pub invariant-loop-i : goal.invariant-loop-i
invariant-loop-i l = (j : ℕ) → j < l.i → get_or l.board.sets j 0 ≡ get_or l.floor.sets j 0
