-- What a round of turns ensures: the board that the next one begins with, the signs on it, and that it is above the settled one.
-- And what turns and findings of pairs ensure that are made in any order.
use Rattle.std.specs.Prelude.{◌≡◌, true, List, ℕ, ◌<◌}
use Rattle.std.proofs.Math.Option.{Option}
use Rattle.rules.specs.Signs.{SignSet}
use Rattle.rules.specs.Polynomial.{Atom}
use Rattle.rules.specs.Polynomial.{Board as Sets}
use Rattle.rules.specs.Rounds.{turns, same_sets, search_board}
use Rattle.turn_laws.specs.AfterTurns.{AfterTurns, Idle}
use Rattle.turn_laws.specs.Afresh.{PairsIdle}
use Rattle.terms.specs.declared.Board.{Board}
use Rattle.terms.specs.View.{sets_of}
use Rattle.table.specs.declared.Atoms.{Atoms}
use Rattle.table.specs.Table.{Table, atoms_of}
use Rattle.round.specs.Signing.{Ready}
use Rattle.ahead.specs.declared.Passed.{Passed}
use Rattle.search.specs.declared.variables.OfBoard.{OfBoard}
use Rattle.search.specs.Search.{when_found}
use Rattle.rounds.specs.Ended.{further_from}
use Rattle.rounds.specs.Bounded.{BoundedBy}

-- where the round after the one on the board begins, if one is
unfoldable pub further_board : ℕ → List Atom → Sets → Option Sets
further_board n atoms board = let next = turns n atoms board 0 n in further_from (same_sets board next) (search_board n atoms next 0 n next) next

-- r is it
pub record TurnedOn (t : Table) (a : Atoms) (b floor : Board) (r : OfBoard) (ss : List SignSet) : Type 0 where
  pub found : when_found r.found (sets_of r.board) ≡ further_board t.variables (atoms_of t a) (sets_of b)
  pub variables : r.board.variables ≡ t.variables
  pub ready : Ready t (sets_of r.board) a ss
  pub bounded : BoundedBy t (record { board = r.board; atoms = a }) floor

-- r is what turns and findings of pairs leave of the board b; if it is still, each variable's turn is idle, and so are its pairs
pub record Settling (t : Table) (a : Atoms) (b : Board) (r : Passed) : Type 0 where
  pub variables : r.board.variables ≡ t.variables
  pub after : AfterTurns t.variables (atoms_of t a) (sets_of b) (sets_of r.board)
  pub idle : r.still ≡ true → (i : ℕ) → i < t.variables → Idle t.variables (atoms_of t a) (sets_of r.board) i
  pub pairs_idle : r.still ≡ true → (i : ℕ) → i < t.variables → PairsIdle t.variables (record { board = sets_of r.board; atoms = atoms_of t a }) i
