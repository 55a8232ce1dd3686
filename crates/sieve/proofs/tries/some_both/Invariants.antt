-- The test is barred with each u so far.
use Rattle.sieve.specs.Rows.{rows}
use Rattle.sieve.proofs.Bars.{BothWalked}
use Rattle.sieve.proofs.tries.some_both.Given as goal

abbrev pub invariant-loop-i : goal.invariant-loop-i
invariant-loop-i l = BothWalked (rows l.a l.b l.c l.s) l.n l.lowers l.from l.to l.fn.first l.i
