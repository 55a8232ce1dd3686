-- The turns that are left go on from the board at hand.
use Rattle.std.proofs.Common.{◌≡◌, length}
use Rattle.terms.specs.View.{sets_of}
use Rattle.round.specs.Views.{table_of}
use Rattle.common_run.proofs.Turnings.{Turnings}
use Rattle.common_run.proofs.turning.turns_marking.Given as goal

abbrev pub invariant-loop-i : goal.invariant-loop-i
invariant-loop-i l = record {
  as_long : length l.sign ≡ length l.fn.sign;
  turns : Turnings (table_of l.coefficient l.monomial l.terms l.n) l.atoms (sets_of l.initial.passed.board) l.round l.initial.passed.marks l.i l.passed.board l.passed.marks l.sign;
}
