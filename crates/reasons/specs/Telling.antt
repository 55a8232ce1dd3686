-- What the functions behind the records ask and tell, over tokens, in the book's values.
use Rattle.std.specs.Prelude.{◌≡◌, Bool, false, List, [], ◌∷◌, ℕ, ◌<◌, ◌≤◌, eqb, length}
use Rattle.rules.specs.Level.{Placed, plains, remove_implied}
use Rattle.table.specs.Table.{Table}
use Rattle.tape.specs.declared.rows.Row.{Row}
use Rattle.tape.specs.Row.{Lists}
use Rattle.tape.specs.Token.{slot, place, atoms_in}
use Rattle.round.specs.declared.State.{State}
use Rattle.settled.specs.Remaining.{CarriedFrom}
use Rattle.leaving.specs.declared.Question.{Question}
use Rattle.fates.specs.declared.Fates.{Fates}
use Rattle.fates.specs.Fated.{FatesOf, all_false, each_told}
use Rattle.rules.specs.Reasons.{Reason as Why, kept_with, narrowed_to, merged_into, removed_by, all_false_by, places_of, told_from, or_place, reason_for}
use Rattle.reason_laws.specs.Names.{Rising}

-- Whether what some atoms say of the token's atom lies inside its set.
abbrev pub asking : State → ℕ → Question
asking state token = record { state = state; token = token; contradiction = false }

-- The place of the first token of a slot, else the one given.
unfoldable pub first_place : ℕ → List ℕ → ℕ → ℕ
first_place number [] own = own
first_place number (x ∷ l) own = or_place (eqb number (slot x)) (place x) (first_place number l own)

-- Whether the first token is at the place.
unfoldable pub is_first : ℕ → List ℕ → Bool
is_first i [] = false
is_first i (x ∷ l) = eqb i (place x)

-- Step 5 over the tokens that carry their sets, and what it leaves.
pub record Sifted (t : Table) (list rest : Row) (state : State) : Type 0 where
  pub carrying : List ℕ
  pub staying : List ℕ
  pub lists : Lists list carrying
  pub rest_lists : Lists rest staying
  pub few : length carrying ≤ 64
  pub from : CarriedFrom t state (plains (atoms_in t carrying))
  pub rises : Rising (atoms_in t carrying)
  pub left : remove_implied t.variables [] (atoms_in t carrying) ≡ atoms_in t staying

-- The fates of tokens whose places rise.
pub record Explains (t : Table) (r : Fates) : Type 0 where
  pub tokens : List ℕ
  pub fates : FatesOf t tokens r
  pub rises : Rising (atoms_in t tokens)

-- What is told of one of the atoms.
unfoldable pub told : {t : Table} {l : List ℕ} {r : Fates} → FatesOf t l r → Placed → Why
told {t} (all_false f) c = all_false_by (places_of (atoms_in t f.named))
told {t} (each_told f) c = reason_for (atoms_in t f.merged) (told_from t.variables [] (atoms_in t f.carrying)) c

-- The place of an atom that another is merged into fits a byte.
abbrev pub LowPlace : Why → Type 0
LowPlace (kept_with s) = Unit {0}
LowPlace (narrowed_to s) = Unit {0}
LowPlace (merged_into i) = i < 256
LowPlace (removed_by s named) = Unit {0}
LowPlace (all_false_by named) = Unit {0}
