-- So far no set behind the index is empty.
use Rattle.std.proofs.Common.{List, ℕ}
use Rattle.tape.specs.Row.{Lists}
use Rattle.merging.proofs.Behind.{Sofar}
use Rattle.merging.proofs.behind_empty.Given as goal

abbrev pub invariant-loop-i : goal.invariant-loop-i
invariant-loop-i l = (tokens : List ℕ) → Lists l.list tokens → Sofar tokens l.behind l.i
