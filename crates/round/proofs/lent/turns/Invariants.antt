-- What the turns so far have left of the board and of its signs.
use Rattle.std.proofs.Common.{◌≡◌}
use Rattle.round.proofs.Narrowing.{Narrowing}
use Rattle.round.proofs.lent.turns.Given as goal

abbrev pub invariant-loop-i : goal.invariant-loop-i
invariant-loop-i l = record {
  all : l.n ≡ l.initial.board.variables;
  narrowing : Narrowing l.coefficient l.monomial l.terms l.atoms l.initial.board l.initial.sign l.i l.board l.sign;
}
