-- The tokens passed have their sets, and the rest is as it was.
use Rattle.std.proofs.Common.{List, ℕ, drop}
use Rattle.tape.specs.Row.{row_of, Lists, Ahead}
use Rattle.steps.proofs.Cutting.{Setting}
use Rattle.steps.proofs.carrying.with_sets.Given as goal

abbrev pub invariant-loop-i : goal.invariant-loop-i
invariant-loop-i l =
    record { ahead : Ahead l.list l.fn.list l.i; left : (m : List ℕ) → Lists (row_of l.fn.list l.n) m → Setting l.atoms.set m (row_of l.list l.i) l.i (drop l.i m) }
