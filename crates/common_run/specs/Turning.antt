-- What a round that marks ensures: the book's turns, that each of their cuts rests on the atoms that are marked, whatever is marked later, and that
-- each is the same without the atoms of any one slot that is not marked as needed.
use Rattle.std.specs.Prelude.{◌≡◌, false, List, ℕ, ◌<◌, get_or}
use Rattle.rules.specs.Signs.{SignSet, full}
use Rattle.rules.specs.Polynomial.{Atom, Board, variable}
use Rattle.rules.specs.Rounds.{cut_by, turn, turns}
use Rattle.removal_laws.specs.Rounds.{LowBoard}
use Rattle.turn_laws.specs.AfterTurns.{Floor}
use Rattle.count_laws.specs.Common.{RestTurns}
use Rattle.terms.specs.declared.Board.{Board as Sets}
use Rattle.terms.specs.View.{sets_of}
use Rattle.table.specs.declared.Atoms.{Atoms}
use Rattle.table.specs.Table.{Table, atoms_of}
use Rattle.round.specs.Round.{Turned}
use Rattle.common_run.specs.declared.marks.BothMarks.{BothMarks}
use Rattle.common_run.specs.Marks.{marked_by, marked_of, apart_of, Grows, GrowBoth}

-- of variable i's set `old` all atoms leave r, and so do those that are marked; and so do those that are not of a slot that is not marked as needed
pub record CutMarking (t : Table) (a : Atoms) (board : Board) (i : ℕ) (old : SignSet) (round : ℕ) (marks : BothMarks) (r : SignSet)
    (more : BothMarks) : Type 0 where
  pub set : r ≡ cut_by board (variable t.variables i) (atoms_of t a) old
  pub grows : GrowBoth marks more
  pub rests : (later : List ℕ) → Grows more.resting.first later → cut_by board (variable t.variables i) (marked_of later round t a) old ≡ r
  pub spared : old < 8 → (k : ℕ) → k < 64 → marked_by (get_or more.needed.first k 0) round ≡ false
      → cut_by board (variable t.variables i) (apart_of k t a) old ≡ r

-- no turn on the board, or later, goes below the floor
pub record Floored (t : Table) (a : Atoms) (b floor : Sets) : Type 0 where
  pub variables : floor.variables ≡ t.variables
  pub below : Floor t.variables (atoms_of t a) (sets_of b) (sets_of floor)

-- these leave of variable i's set what all atoms leave
abbrev pub SameCut : Table → Atoms → Board → ℕ → List Atom → Type 0
SameCut t a board i these =
    cut_by board (variable t.variables i) these (get_or board i full) ≡ cut_by board (variable t.variables i) (atoms_of t a) (get_or board i full)

-- r is the board after variable i's turn
pub record TurnMarking (t : Table) (a : Atoms) (board : Board) (i round : ℕ) (marks : BothMarks) (r : Sets) (more : BothMarks)
    (ss : List SignSet) : Type 0 where
  pub turned : Turned t a (turn t.variables (atoms_of t a) board i) r ss
  pub grows : GrowBoth marks more
  pub rests : (later : List ℕ) → Grows more.resting.first later → SameCut t a board i (marked_of later round t a)
  pub spared : get_or board i full < 8 → (k : ℕ) → k < 64 → marked_by (get_or more.needed.first k 0) round ≡ false
      → SameCut t a board i (apart_of k t a)

-- r is the board after the turns of all variables
pub record TurnsMarking (t : Table) (a : Atoms) (board : Board) (round : ℕ) (marks : BothMarks) (r : Sets) (more : BothMarks)
    (ss : List SignSet) : Type 0 where
  pub turned : Turned t a (turns t.variables (atoms_of t a) board 0 t.variables) r ss
  pub grows : GrowBoth marks more
  pub rests : (later : List ℕ) → Grows more.resting.first later
      → RestTurns t.variables (atoms_of t a) (marked_of later round t a) board 0 t.variables
  pub spared : LowBoard board → (k : ℕ) → k < 64 → marked_by (get_or more.needed.first k 0) round ≡ false
      → RestTurns t.variables (atoms_of t a) (apart_of k t a) board 0 t.variables
