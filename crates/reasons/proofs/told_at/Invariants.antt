-- Step 5 on the way to the atom's place.
use Rattle.round.specs.Views.{table_of}
use Rattle.reasons.proofs.Stepping.{Way}
use Rattle.reasons.proofs.told_at.Given as goal

abbrev pub invariant-loop-i : goal.invariant-loop-i
invariant-loop-i l = Way (table_of l.coefficient l.monomial l.terms l.variables) l.list l.left l.state l.token l.kept l.i
