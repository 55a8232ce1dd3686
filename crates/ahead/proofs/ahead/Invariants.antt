-- Passes after the order's turns are turns after turns.
use Rattle.std.proofs.Common.{◌≡◌, length}
use Rattle.round.specs.Views.{table_of}
use Rattle.ahead.specs.Ahead.{After}
use Rattle.ahead.proofs.ahead.Given as goal

abbrev pub invariant-loop-made : goal.invariant-loop-made
invariant-loop-made l = record {
  places : length l.sign ≡ length l.initial.sign;
  after : After (table_of l.coefficient l.monomial l.terms l.initial.passed.board.variables) l.atoms l.initial.passed.board l.passed.board l.sign;
}
