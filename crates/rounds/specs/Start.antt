-- What the start of the rounds ensures of a variable's atom: its set is on the board.
-- What it ensures of any other atom is `Listed` of the crate `round`.
use Rattle.std.specs.Prelude.{◌≡◌, ℕ}
use Rattle.std.proofs.Math.Option.{Option}
use Rattle.rules.specs.Signs.{SignSet}
use Rattle.rules.specs.Rounds.{placed}
use Rattle.terms.specs.View.{sets_of}
use Rattle.terms.specs.declared.Board.{Board}

-- r is the board b with the set of the variable's atom placed on it
pub record Placed (variable : Option ℕ) (s : SignSet) (b r : Board) : Type 0 where
  pub variables : r.variables ≡ b.variables
  pub sets : sets_of r ≡ placed variable s (sets_of b)
