-- The first i of the lent records are those that are told.
use Rattle.why.proofs.Filling.{Filling}
use Rattle.why.proofs.fill.Given as goal

abbrev pub invariant-loop-i : goal.invariant-loop-i
invariant-loop-i l = Filling l.told.found.records l.initial.records l.told.found.count l.i l.records
