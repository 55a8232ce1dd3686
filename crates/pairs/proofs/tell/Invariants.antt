-- What the book's tests say of the pairs left gives what they say of all.
use Rattle.pairs.proofs.Reading.{PairsLeft}
use Rattle.pairs.proofs.tell.Given as goal

abbrev pub invariant-loop-i : goal.invariant-loop-i
invariant-loop-i l = PairsLeft l.n l.src l.at l.count l.i l.least l.above l.exponents
