-- What turns and findings have left of the first board.
use Rattle.std.proofs.Common.{◌≡◌, length}
use Rattle.round.specs.Views.{table_of}
use Rattle.rounds.proofs.Settling.{Narrowing}
use Rattle.rounds.proofs.narrow.settling.Given as goal

abbrev pub invariant-loop : goal.invariant-loop
invariant-loop l = record {
  narrowing : Narrowing (table_of l.coefficient l.monomial l.terms l.initial.at.variables) l.atoms l.initial.at l.at;
  places : length l.sign ≡ 1280;
}
