-- What becomes of the atoms of an AND, over tokens, in the book's values.
use Rattle.std.specs.Prelude.{◌≡◌, true, false, List, [], ℕ, ◌≤◌, length}
use Rattle.rules.specs.Level.{plains, remove_implied}
use Rattle.table.specs.Table.{Table}
use Rattle.tape.specs.declared.rows.Row.{Row}
use Rattle.tape.specs.Row.{Lists}
use Rattle.tape.specs.Token.{atoms_in}
use Rattle.settled.specs.Remaining.{CarriedFrom}
use Rattle.rules.specs.Reasons.{places_of, told_from, each_reason, each_false}
use Rattle.reason_laws.specs.Places.{Among}
use Rattle.reason_laws.specs.Sooner.{reasons_of}
use Rattle.fates.specs.declared.Fates.{Fates}

-- At most 255 tokens.
pub record Given (given : Row) : Type 0 where
  pub tokens : List ℕ
  pub lists : Lists given tokens
  pub few : length tokens ≤ 255

-- The whole is false by the tokens of the row.
pub record FalseBy (t : Table) (l : List ℕ) (r : Fates) : Type 0 where
  pub flag : r.excluded ≡ true
  pub named : List ℕ
  pub lists : Lists r.carried named
  pub is : reasons_of t.variables (atoms_in t l) ≡ each_false (places_of (atoms_in t named)) (atoms_in t l)

-- Each has its fate by step 5, of which what is left is known.
pub record EachBy (t : Table) (l : List ℕ) (r : Fates) : Type 0 where
  pub flag : r.excluded ≡ false
  pub merged : List ℕ
  pub carrying : List ℕ
  pub staying : List ℕ
  pub joined_lists : Lists r.joined merged
  pub carried_lists : Lists r.carried carrying
  pub left_lists : Lists r.left staying
  pub few : length carrying ≤ 64
  pub from : CarriedFrom t r.state (plains (atoms_in t carrying))
  pub among : Among (atoms_in t l) (atoms_in t carrying)
  pub left : remove_implied t.variables [] (atoms_in t carrying) ≡ atoms_in t staying
  pub is : reasons_of t.variables (atoms_in t l) ≡ each_reason (atoms_in t merged) (told_from t.variables [] (atoms_in t carrying)) (atoms_in t l)

pub data FatesOf (t : Table) (l : List ℕ) (r : Fates) : Type 0 where
  all_false : FalseBy t l r → FatesOf t l r
  each_told : EachBy t l r → FatesOf t l r
