-- So far the text agrees with the texts from the slot i on.
use Rattle.std.proofs.Common.{◌≡◌, ◌+◌, ◌≤◌, drop}
use Rattle.script_polynomial.proofs.Comparing.{agrees_from}
use Rattle.script_polynomial.proofs.tabled.longest.Given as goal

abbrev pub invariant-loop-i : goal.invariant-loop-i
invariant-loop-i l = record {
  within : l.i ≤ l.known;
  best : l.best ≡ l.at + agrees_from l.n l.coefficient l.monomial l.terms (drop l.at l.text) l.known l.i;
}
