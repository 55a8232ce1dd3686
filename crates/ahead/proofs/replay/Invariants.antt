-- Whatever the order, each hint is a turn in part, or nothing.
use Rattle.std.proofs.Common.{◌≡◌, ◌≤◌, length}
use Rattle.round.specs.Views.{table_of}
use Rattle.ahead.specs.Ahead.{Reached}
use Rattle.ahead.proofs.replay.Given as goal

abbrev pub invariant-loop-k : goal.invariant-loop-k
invariant-loop-k l = record {
  places : length l.sign ≡ length l.fn.sign;
  few : l.end ≤ 64;
  reached : Reached (table_of l.coefficient l.monomial l.terms l.initial.at.variables) l.atoms l.initial.at l.at;
}
