-- The test is barred with each w so far.
use Rattle.sieve.specs.Rows.{rows}
use Rattle.sieve.proofs.Bars.{SecondWalked}
use Rattle.sieve.proofs.tries.some_second.Given as goal

abbrev pub invariant-loop-j : goal.invariant-loop-j
invariant-loop-j l = SecondWalked (rows l.a l.b l.c l.s) l.n l.u l.lowers l.fn.from l.j
