-- Nothing was found of the variables so far.
use Rattle.std.proofs.Common.{◌≡◌, ℕ, ◌<◌}
use Rattle.std.proofs.Math.Option.{none}
use Rattle.round.specs.Views.{table_of}
use Rattle.search.proofs.Nothing.{first_of_variable}
use Rattle.search.proofs.variables.search_board_by.Given as goal

abbrev pub invariant-loop-i : goal.invariant-loop-i
invariant-loop-i l = (j : ℕ) → j < l.i → first_of_variable (table_of l.coefficient l.monomial l.terms l.board.variables) l.board l.atoms j ≡ none
