-- What is kept so far, and the rest as it was.
use Rattle.std.proofs.Common.{List, ℕ, ◌≤◌, drop}
use Rattle.tape.specs.Row.{row_of, Lists, Ahead}
use Rattle.steps.proofs.Cutting.{Leaving}
use Rattle.steps.proofs.carrying.kept_of.Given as goal

abbrev pub invariant-loop-i : goal.invariant-loop-i
invariant-loop-i l =
    record { small : l.count ≤ l.i; ahead : Ahead l.list l.fn.list l.i; left : (m : List ℕ) → Lists (row_of l.fn.list l.n) m → Leaving l.kept.keep m (row_of l.list l.count) l.i (drop l.i m) }
