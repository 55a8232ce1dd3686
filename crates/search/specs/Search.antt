-- What the search over pairs ensures: the book's finding, of a variable, of an atom, of the whole state.
-- Each says also that what is not cut stays as it was.
use Rattle.std.specs.Prelude.{◌≡◌, refl, Bool, true, false, List, [], ℕ, ◌<◌, ◌≤◌, get_or}
use Rattle.std.proofs.Common.{sym, ◌∙◌, true≢false, arith, eq-eqb}
use Rattle.std.proofs.Math.Option.{Option, none, some}
use Rattle.rules.specs.Signs.{full, empty}
use Rattle.rules.specs.Polynomial.{Atom, Board, variable}
use Rattle.rules.specs.TwoAtoms.{tries, first_cut}
use Rattle.rules.specs.Rounds.{search_board, search_atoms, search}
use Rattle.sign_laws.specs.Lists.{every-get_d}
use Rattle.sign_laws.specs.Sets.{not_empty}
use Rattle.removal_laws.specs.Terms.{Signed, small_signed}
use Rattle.terms.specs.View.{few, sets_of}
use Rattle.terms.specs.declared.Board.{Board as Sets}
use Rattle.table.specs.declared.Atoms.{Atoms}
use Rattle.table.specs.Table.{Table, atoms_of}
use Rattle.round.specs.declared.State.{State}
use Rattle.round.specs.Views.{state_of}
use Rattle.round.specs.Boards.{set_at}
use Rattle.search.specs.Filled.{Filled}
use Rattle.search.specs.declared.Found.{Found}
use Rattle.search.specs.declared.variables.OfBoard.{OfBoard}
use Rattle.search.specs.declared.atoms.OfAtoms.{OfAtoms}

-- something, if it was found
unfoldable pub when_found : {A : Type 0} → Bool → A → Option A
when_found true a = some a
when_found false a = none

-- No pair finds anything of a variable that has its floor's set.
pub record PairsFloor (n : ℕ) (atoms : List Atom) (board floor : Board) : Type 0 where
  pub idle : (i : ℕ) → i < n → get_or board i full ≡ get_or floor i full → first_cut (get_or board i full) (tries board (variable n i) atoms) ≡ none

-- Each variable has its floor's set.
pub record AtFloor (b floor : Sets) : Type 0 where
  pub each : (i : ℕ) → i < b.variables → get_or b.sets i 0 ≡ get_or floor.sets i 0

-- r has the board's variables, and its sets are empty
pub record Nowhere (b r : Sets) : Type 0 where
  pub variables : r.variables ≡ b.variables
  pub sets : (i : ℕ) → i < 16 → get_or r.sets i 0 ≡ empty

-- No set of a filled board is at such a floor.
pub nowhere-floor : {b floor : Sets} (atoms : List Atom) → b.variables ≤ 16 → Nowhere b floor → Filled (sets_of b)
    → PairsFloor b.variables atoms (sets_of b) (sets_of floor)
nowhere-floor {b} {floor} atoms few-variables nowhere filled = record {
  idle = λ i h e.
      let low : i < few floor.variables = omega (arith, nowhere.variables) in
      let nothing : get_or (sets_of b) i full ≡ empty = e ∙ set_at floor.sets i (few floor.variables) low ∙ nowhere.sets i (omega arith) in
      let signed : Signed (get_or (sets_of b) i full) = every-get_d i full (small_signed full (omega arith) refl) filled in
      absurd (true≢false (sym (eq-eqb (get_or (sets_of b) i full) empty nothing) ∙ not_empty (get_or (sets_of b) i full) signed.held));
}

-- r is what the search over the variables finds; the board itself if that is nothing
pub record SearchedBoard (t : Table) (b : Sets) (a : Atoms) (r : OfBoard) : Type 0 where
  pub found : when_found r.found (sets_of r.board) ≡ search_board t.variables (atoms_of t a) (sets_of b) 0 t.variables (sets_of b)
  pub variables : r.board.variables ≡ b.variables
  pub itself : r.found ≡ false → r.board ≡ b

-- the same over the atoms
pub record SearchedAtoms (t : Table) (b : Sets) (a : Atoms) (r : OfAtoms) : Type 0 where
  pub found : when_found r.found (atoms_of t r.atoms) ≡ search_atoms (sets_of b) [] (atoms_of t a)
  pub count : r.atoms.count ≡ a.count
  pub number : r.atoms.number ≡ a.number
  pub itself : r.found ≡ false → r.atoms ≡ a

-- the same over both
pub record SearchedState (t : Table) (st : State) (r : Found) : Type 0 where
  pub found : when_found r.found (state_of t r.state) ≡ search t.variables (state_of t st)
  pub variables : r.state.board.variables ≡ t.variables
  pub count : r.state.atoms.count ≡ st.atoms.count
  pub number : r.state.atoms.number ≡ st.atoms.number
  pub itself : r.found ≡ false → r.state ≡ st
