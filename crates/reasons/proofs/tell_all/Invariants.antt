-- The records so far are those of the atoms passed.
use Rattle.round.specs.Views.{table_of}
use Rattle.reasons.proofs.Recording.{Telling}
use Rattle.reasons.proofs.tell_all.Given as goal

abbrev pub invariant-loop-i : goal.invariant-loop-i
invariant-loop-i l = Telling (table_of l.coefficient l.monomial l.terms l.variables) l.given l.fates l.found l.i
