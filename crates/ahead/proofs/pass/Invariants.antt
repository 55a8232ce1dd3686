-- Each variable has its turn at its place.
use Rattle.std.proofs.Common.{◌≡◌, length}
use Rattle.round.specs.Views.{table_of}
use Rattle.ahead.proofs.Passing.{Passing}
use Rattle.ahead.proofs.pass.Given as goal

abbrev pub invariant-loop-i : goal.invariant-loop-i
invariant-loop-i l = record {
  places : length l.sign ≡ length l.fn.sign;
  passing : Passing (table_of l.coefficient l.monomial l.terms l.n) l.atoms l.initial.passed.board l.up l.i l.passed l.sign;
}
