-- The common run from a start, as far as it was made: each of its rounds but the last changes the board, and the cuts of each rest on what is marked
-- by it, and spare the atoms of any slot that is not marked as needed. If it has ended, its last round leaves the board, and no pair of atoms finds
-- anything of a variable.
use Rattle.std.specs.Prelude.{◌≡◌, true, false, List, ℕ, suc, ◌<◌, ◌≤◌, get_or}
use Rattle.rules.specs.Rounds.{same_sets}
use Rattle.removal_laws.specs.Rounds.{LowBoard}
use Rattle.count_laws.specs.Common.{RestTurns}
use Rattle.count_laws.specs.Onward.{after_rounds, NoPair}
use Rattle.rules.specs.Polynomial.{Board}
use Rattle.terms.specs.View.{sets_of}
use Rattle.table.specs.Table.{Table, atoms_of}
use Rattle.round.specs.declared.State.{State}
use Rattle.common_run.specs.declared.run.Common.{Common}
use Rattle.common_run.specs.declared.marks.BothMarks.{BothMarks}
use Rattle.common_run.specs.Marks.{marked_by, marked_of, apart_of}
use Rattle.common_run.specs.Boards.{board_at}

-- the board after so many rounds from the state
abbrev pub after : Table → State → ℕ → Board
after t st i = after_rounds t.variables (atoms_of t st.atoms) i (sets_of st.board)

-- the cuts of the round on the board after i rest on what is marked by it
abbrev pub RestsAt : Table → State → List ℕ → ℕ → Type 0
RestsAt t st marks i =
    RestTurns t.variables (atoms_of t st.atoms) (marked_of marks (suc i) t st.atoms) (after t st i) 0 t.variables

-- they are the same without the atoms of any one slot that no cut up to it needs
abbrev pub SparesAt : Table → State → List ℕ → ℕ → Type 0
SparesAt t st needed i = LowBoard (after t st i) → (k : ℕ) → k < 64 → marked_by (get_or needed k 0) (suc i) ≡ false
    → RestTurns t.variables (atoms_of t st.atoms) (apart_of k t st.atoms) (after t st i) 0 t.variables

-- the round on the board after i is the last: it leaves that board, and no pair finds anything of a variable on it
pub record LastAt (t : Table) (st : State) (marks : BothMarks) (i : ℕ) : Type 0 where
  pub still : same_sets (after t st i) (after t st (suc i)) ≡ true
  pub rests : RestsAt t st marks.resting.first i
  pub spares : SparesAt t st marks.needed.first i
  pub no-pair : NoPair t.variables (atoms_of t st.atoms) (after t st (suc i))

-- as many boards as rounds; a run that has ended has made its last round too
pub record CommonOf (t : Table) (st : State) (r : Common) : Type 0 where
  pub some : 0 < r.rounds
  pub most : r.rounds ≤ 40
  pub moves : (i : ℕ) → suc i < r.rounds → same_sets (after t st i) (after t st (suc i)) ≡ false
  pub boards : (i : ℕ) → i < r.rounds → board_at r.boards.sets i t.variables ≡ after t st i
  pub rests : (i : ℕ) → suc i < r.rounds → RestsAt t st r.marks.resting.first i
  pub spares : (i : ℕ) → suc i < r.rounds → SparesAt t st r.marks.needed.first i
  pub last : r.ended ≡ true → (i : ℕ) → suc i ≡ r.rounds → LastAt t st r.marks i
