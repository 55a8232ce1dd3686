-- The book still looks among the variables that the loop has left.
use Rattle.std.proofs.Common.{◌≡◌}
use Rattle.rules.specs.Polynomial.{which_of, which}
use Rattle.table.specs.Table.{form_at}
use Rattle.round.specs.Views.{table_of}
use Rattle.round.proofs.slots.which.Given as goal

abbrev pub invariant-loop-i : goal.invariant-loop-i
invariant-loop-i l =
    let p = form_at (table_of l.coefficient l.monomial l.terms l.variables) l.k in which_of l.variables l.i p ≡ which l.variables p
