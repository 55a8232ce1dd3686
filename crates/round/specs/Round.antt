-- What the functions of a round ensure: the variables' turns, the atoms cut by each other on the board that these left, and the whole round.
-- Each says in the book's words what the result is over the table.
use Rattle.std.specs.Prelude.{◌≡◌, List}
use Rattle.rules.specs.Signs.{SignSet}
use Rattle.rules.specs.Polynomial.{Atom, Board}
use Rattle.rules.specs.Rounds.{round}
use Rattle.terms.specs.View.{sets_of}
use Rattle.terms.specs.declared.Board.{Board as Sets}
use Rattle.table.specs.declared.Atoms.{Atoms}
use Rattle.table.specs.Table.{Table, atoms_of}
use Rattle.round.specs.declared.State.{State}
use Rattle.round.specs.Views.{state_of}
use Rattle.round.specs.Signing.{Ready}

-- the board b of the table's variables has the sets that are said, and the signs ss are those of its slots
pub record Turned (t : Table) (a : Atoms) (board : Board) (b : Sets) (ss : List SignSet) : Type 0 where
  pub variables : b.variables ≡ t.variables
  pub sets : sets_of b ≡ board
  pub ready : Ready t (sets_of b) a ss

-- r is the list a with other sets, and it is the list that is said
pub record Cut (t : Table) (a : Atoms) (l : List Atom) (r : Atoms) : Type 0 where
  pub count : r.count ≡ a.count
  pub number : r.number ≡ a.number
  pub atoms : atoms_of t r ≡ l

-- r is the state after a round from st
pub record Rounded (t : Table) (st r : State) : Type 0 where
  pub variables : r.board.variables ≡ t.variables
  pub count : r.atoms.count ≡ st.atoms.count
  pub number : r.atoms.number ≡ st.atoms.number
  pub state : state_of t r ≡ round t.variables (state_of t st)
