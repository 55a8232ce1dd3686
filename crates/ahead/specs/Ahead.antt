-- What the functions of this crate ensure: the board that turns of variables, in some order, have left of a first board.
-- Where it is told that they left every set, each variable's turn is idle.
use Rattle.std.specs.Prelude.{◌≡◌, Bool, true, false, List, ℕ, ◌-◌, ◌<◌}
use Rattle.rules.specs.Signs.{SignSet}
use Rattle.rules.specs.Rounds.{turn}
use Rattle.terms.specs.declared.Board.{Board}
use Rattle.terms.specs.View.{sets_of}
use Rattle.table.specs.declared.Atoms.{Atoms}
use Rattle.table.specs.Table.{Table, atoms_of}
use Rattle.turn_laws.specs.AfterTurns.{AfterTurns, Idle}
use Rattle.round.specs.Signing.{Ready}
use Rattle.ahead.specs.declared.Passed.{Passed}

-- the variable that has the turn after i others
unfoldable pub place_of : Bool → ℕ → ℕ → ℕ
place_of true n i = i
place_of false n i = n - 1 - i

-- r is what variable i's turn leaves, and the signs are those of its board
pub record Stepped (t : Table) (a : Atoms) (before : Passed) (i : ℕ) (r : Passed) (ss : List SignSet) : Type 0 where
  pub variables : r.board.variables ≡ t.variables
  pub sets : sets_of r.board ≡ turn t.variables (atoms_of t a) (sets_of before.board) i
  pub ready : Ready t (sets_of r.board) a ss
  pub still : r.still ≡ true → (before.still ≡ true) × Idle t.variables (atoms_of t a) (sets_of before.board) i

-- r is what turns leave of the board b
pub record Reached (t : Table) (a : Atoms) (b r : Board) : Type 0 where
  pub variables : r.variables ≡ t.variables
  pub after : AfterTurns t.variables (atoms_of t a) (sets_of b) (sets_of r)

-- the same, and the signs are those of its sets
pub record After (t : Table) (a : Atoms) (b r : Board) (ss : List SignSet) : Type 0 where
  pub variables : r.variables ≡ t.variables
  pub after : AfterTurns t.variables (atoms_of t a) (sets_of b) (sets_of r)
  pub ready : Ready t (sets_of r) a ss

-- the same, and where it is told that they left every set, each variable's turn is idle
pub record Ahead (t : Table) (a : Atoms) (b : Board) (r : Passed) (ss : List SignSet) : Type 0 where
  pub variables : r.board.variables ≡ t.variables
  pub after : AfterTurns t.variables (atoms_of t a) (sets_of b) (sets_of r.board)
  pub ready : Ready t (sets_of r.board) a ss
  pub idle : r.still ≡ true → (i : ℕ) → i < t.variables → Idle t.variables (atoms_of t a) (sets_of r.board) i
