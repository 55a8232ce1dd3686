-- The monomials so far fall.
use Rattle.sieve.proofs.Merge.{FallsTo}
use Rattle.sieve.proofs.rows.falls.Given as goal

abbrev pub invariant-loop-i : goal.invariant-loop-i
invariant-loop-i l = FallsTo l.monomial l.fn.run.from l.fn.run.to l.i
