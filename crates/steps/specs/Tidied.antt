-- Step 2 over tokens: what each of its functions leaves, in the book's values.
use Rattle.std.specs.Prelude.{◌≡◌, Bool, true, false, Option, None, Some, List, [], ◌∷◌, ℕ, ◌≤◌, length}
use Rattle.rules.specs.Polynomial.{constant}
use Rattle.rules.specs.Level.{Placed, normal_placed, Tidied as Outcome, broken, tidied, merge_into, merge_normal, merge, without_full, tidy}
use Rattle.table.specs.Table.{Table}
use Rattle.tape.specs.declared.rows.Row.{Row}
use Rattle.tape.specs.Row.{Lists}
use Rattle.tape.specs.Token.{slot, atom_of, atoms_in}

unfoldable pub tidied_of : Bool → List Placed → Outcome
tidied_of true l = broken
tidied_of false l = tidied l

-- ---- A constant's atom is true or false, and step 2 goes on without it or breaks off; an open one is merged.

unfoldable pub after_truth : Option Bool → Outcome → Outcome → Outcome
after_truth None merged without = merged
after_truth (Some true) merged without = without
after_truth (Some false) merged without = broken

pub record TruthIs (t : Table) (token : ℕ) (r : Option Bool) : Type 0 where
  pub is : (l : List Placed) (more : List Placed → Outcome)
      → merge_normal (constant (normal_placed (atom_of t token)).polynomial) (normal_placed (atom_of t token)) l more ≡ after_truth r (more (merge_into (atom_of t token) l)) (more l)

-- ---- Slots: no token of the list names the slot k; no two name the same.

unfoldable pub Absent : ℕ → List ℕ → Type 0
Absent k [] = Unit {0}
Absent k (x ∷ l) = (slot x ≡ k → ⊥) × Absent k l

unfoldable pub Apart : List ℕ → Type 0
Apart [] = Unit {0}
Apart (x ∷ l) = Absent (slot x) l × Apart l

-- ---- The steps: the row is what is kept, and `breaks` says that the node is false.

pub record MergesInto (t : Table) (token : ℕ) (l : List ℕ) (row : Row) : Type 0 where
  pub list : List ℕ
  pub lists : Lists row list
  pub is : merge_into (atom_of t token) (atoms_in t l) ≡ atoms_in t list
  pub apart : Apart l → Apart list

pub record Merges (t : Table) (l : List ℕ) (row : Row) (breaks : Bool) : Type 0 where
  pub list : List ℕ
  pub lists : Lists row list
  pub is : merge [] (atoms_in t l) ≡ tidied_of breaks (atoms_in t list)
  pub apart : Apart list

pub record WithoutFull (t : Table) (l : List ℕ) (row : Row) (breaks : Bool) : Type 0 where
  pub list : List ℕ
  pub lists : Lists row list
  pub small : length list ≤ length l
  pub is : without_full (atoms_in t l) ≡ tidied_of breaks (atoms_in t list)
  pub apart : Apart l → Apart list

pub record Tidies (t : Table) (l : List ℕ) (row : Row) (breaks : Bool) : Type 0 where
  pub list : List ℕ
  pub lists : Lists row list
  pub small : length list ≤ length l
  pub few : length list ≤ 64
  pub is : tidy (atoms_in t l) ≡ tidied_of breaks (atoms_in t list)
