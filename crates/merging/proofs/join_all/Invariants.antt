-- The list so far, and what is left of the atoms.
use Rattle.std.proofs.Common.{List, ℕ, ◌≤◌, drop}
use Rattle.round.specs.Views.{table_of}
use Rattle.tape.specs.Row.{Lists}
use Rattle.merging.proofs.Joining.{Joining}
use Rattle.merging.proofs.join_all.Given as goal

abbrev pub invariant-loop-token : goal.invariant-loop-token
invariant-loop-token l = record {
  few : l.list.count ≤ l.token-index;
  joins : (tokens : List ℕ) → Lists l.fn.given tokens → Joining (table_of l.coefficient l.monomial l.terms l.variables) tokens l.list (drop l.token-index tokens);
}
