-- The tokens kept so far, and what is left of the list.
use Rattle.std.proofs.Common.{List, ℕ, ◌≤◌, drop}
use Rattle.table.specs.Table.{Table}
use Rattle.tape.specs.Row.{Lists}
use Rattle.merging.proofs.Joining.{Keeping}
use Rattle.merging.proofs.not_full.Given as goal

abbrev pub invariant-loop-token : goal.invariant-loop-token
invariant-loop-token l =
    record { few : l.kept.count ≤ l.token-index; keeps : (t : Table) (tokens : List ℕ) → Lists l.fn.list tokens → Keeping t tokens l.kept (drop l.token-index tokens) }
