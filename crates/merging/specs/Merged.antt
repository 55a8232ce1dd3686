-- The merged list over tokens: what each function leaves, in the book's values.
use Rattle.std.specs.Prelude.{◌≡◌, Bool, true, false, List, [], ◌∷◌, ◌++◌, ℕ, ◌+◌, ◌%◌, ◌<◌, ◌≤◌, length, get_or}
use Rattle.rules.specs.Signs.{empty}
use Rattle.rules.specs.Polynomial.{constant}
use Rattle.rules.specs.Level.{Placed, with_set, merge_into}
use Rattle.table.specs.Table.{Table}
use Rattle.tape.specs.declared.rows.Row.{Row}
use Rattle.tape.specs.Row.{Lists}
use Rattle.tape.specs.Token.{slot, atom_of, atoms_in}
use Rattle.rules.specs.Reasons.{join_normal, join_all, not_full}
use Rattle.merging.specs.declared.Truth.{Truth}
use Rattle.merging.specs.declared.Truth.TheVariants.{Open, True, False}

-- ---- A constant's atom is true or false; an open one is merged.

unfoldable pub truth_if : Bool → Truth
truth_if true = True
truth_if false = False

unfoldable pub after_truth : Truth → Placed → List Placed → List Placed
after_truth Open a l = merge_into a l
after_truth True a l = l
after_truth False a l = l ++ (with_set a empty ∷ [])

pub record TruthIs (t : Table) (token : ℕ) (r : Truth) : Type 0 where
  pub is : (l : List Placed) → join_normal (constant (atom_of t token).polynomial) (atom_of t token) l ≡ after_truth r (atom_of t token) l

-- ---- Slots: of the tokens that name one slot, all but the first have the empty set.

unfoldable pub EmptyAt : ℕ → List ℕ → Type 0
EmptyAt k [] = Unit {0}
EmptyAt k (x ∷ l) = (slot x ≡ k → x % 8 ≡ 0) × EmptyAt k l

unfoldable pub Sparse : List ℕ → Type 0
Sparse [] = Unit {0}
Sparse (x ∷ l) = EmptyAt (slot x) l × Sparse l

-- ---- The steps.

pub record MergesInto (t : Table) (token : ℕ) (l : List ℕ) (row : Row) : Type 0 where
  pub list : List ℕ
  pub lists : Lists row list
  pub small : length list ≤ length l + 1
  pub is : merge_into (atom_of t token) (atoms_in t l) ≡ atoms_in t list
  pub sparse : Sparse l → Sparse list

pub record Joins (t : Table) (token : ℕ) (l : List ℕ) (row : Row) : Type 0 where
  pub list : List ℕ
  pub lists : Lists row list
  pub small : length list ≤ length l + 1
  pub is : join_normal (constant (atom_of t token).polynomial) (atom_of t token) (atoms_in t l) ≡ atoms_in t list
  pub sparse : Sparse l → Sparse list

pub record JoinsAll (t : Table) (l : List ℕ) (row : Row) : Type 0 where
  pub list : List ℕ
  pub lists : Lists row list
  pub small : length list ≤ length l
  pub is : join_all [] (atoms_in t l) ≡ atoms_in t list
  pub sparse : Sparse list

pub record NotFull (t : Table) (l : List ℕ) (row : Row) : Type 0 where
  pub list : List ℕ
  pub lists : Lists row list
  pub small : length list ≤ length l
  pub is : not_full (atoms_in t l) ≡ atoms_in t list
  pub sparse : Sparse l → Sparse list

-- ---- The atoms behind the last one with the empty set.

-- From the index r on no set is empty, and the one before it is, if there is one.
pub record BehindEmpty (l : List ℕ) (r : ℕ) : Type 0 where
  pub most : r ≤ length l
  pub filled : (j : ℕ) → r ≤ j → j < length l → get_or l j 0 % 8 ≡ 0 → ⊥
  pub last : (k : ℕ) → r ≡ k + 1 → get_or l k 0 % 8 ≡ 0
