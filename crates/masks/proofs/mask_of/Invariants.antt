-- The words at hand, with those of the places that are left, stay the words of all.
use Rattle.masks.proofs.Walks.{Walked}
use Rattle.masks.proofs.mask_of.Given as goal

abbrev pub invariant-loop-i : goal.invariant-loop-i
invariant-loop-i l = Walked l.coefficient l.monomial l.sign l.fn.run.from l.fn.run.to l.sofar l.i
