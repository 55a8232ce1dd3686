-- Step 5 of a level: what it asks of the atoms and the state that step 3 left, and which of the atoms remain.
use Rattle.std.specs.Prelude.{◌≡◌, Bool, true, false, not, List, [], ◌∷◌, ℕ, suc, ◌+◌, ◌≤◌, get_or, set}
use Rattle.rules.specs.Polynomial.{Atom}
use Rattle.rules.specs.Rounds.{run, settled, carried}
use Rattle.rules.specs.Level.{Placed, plains, kept_unless}
use Rattle.removal_laws.specs.Apart.{Apart}
use Rattle.terms.specs.View.{sets_of}
use Rattle.table.specs.declared.Atoms.{Atoms}
use Rattle.table.specs.Table.{Table, atom_at, atoms_of}
use Rattle.round.specs.declared.State.{State}
use Rattle.round.specs.Views.{state_of}
use Rattle.settled.specs.declared.removal.Remaining.{Remaining}

-- The atoms have the sets that they carry from the state, which the rounds over them settled in; no polynomial is there twice.
pub record CarriedFrom (t : Table) (state : State) (l : List Atom) : Type 0 where
  pub given : List Atom
  pub settles : run t.variables given ≡ settled (state_of t state)
  pub distinct : Apart given
  pub variables : state.board.variables ≡ t.variables
  pub atoms : l ≡ carried t.variables (sets_of state.board) given (atoms_of t state.atoms)

-- What remains of a list, by a mark for each element, from mark i on.
unfoldable pub kept_when : {A : Type 0} → Bool → A → List A → List A
kept_when true a l = a ∷ l
kept_when false a l = l

unfoldable pub remaining : {A : Type 0} → List Bool → ℕ → List A → List A
remaining keep i [] = []
remaining keep i (a ∷ l) = kept_when (get_or keep i false) a (remaining keep (suc i) l)

-- one atom more of the list, the one at i, unless it is out
pub record KeptUnless (out : Bool) (kept : Remaining) (list : Atoms) (i : ℕ) (r : Remaining) : Type 0 where
  pub count : r.atoms.count ≤ kept.atoms.count + 1
  pub atoms : (t : Table) → atoms_of t r.atoms ≡ kept_unless out (atom_at t list.number list.set i) (atoms_of t kept.atoms)
  pub keep : r.keep ≡ set kept.keep i (not out)

-- of the atoms of the list, at whatever places, those remain that are marked
pub record RemainingOf (t : Table) (list : Atoms) (removes : List Placed → List Placed) (r : Remaining) : Type 0 where
  pub keep : (l : List Placed) → plains l ≡ atoms_of t list → remaining r.keep 0 l ≡ removes l
