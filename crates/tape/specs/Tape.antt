-- The working tape: the OR children of an AND in a row. A child is its head, its atoms and its own children, one after the other.
-- Sets are held as the AND rule sees them: those of an OR child are complemented, those of an AND below it are not, and so on by turns.
use Rattle.std.specs.Prelude.{◌≡◌, List, [], ◌∷◌, ◌++◌, ℕ, ◌+◌, ◌*◌, length, drop}
use Rattle.rules.specs.Level.{Formula, dual, parts}
use Rattle.table.specs.Table.{Table}
use Rattle.tape.specs.Token.{atoms_in}

-- Children in order: the atoms of the first, its own children, and the children after it.
pub data Children : Type 0 where
  none : Children
  child : List ℕ → Children → Children → Children

-- Their tokens. A head tells how many atoms follow, and how many tokens of children after these.
abbrev pub laid : Children → List ℕ
laid none = []
laid (child l own later) = (length l * 65536 + length (laid own)) ∷ (l ++ (laid own ++ laid later))

-- More children after these.
abbrev pub also : Children → Children → Children
also none more = more
also (child l own later) more = child l own (also later more)

-- The OR children that they are.
unfoldable pub ors_in : Table → Children → List Formula
ors_in t none = []
ors_in t (child l own later) = dual (parts (atoms_in t l) (ors_in t own)) ∷ ors_in t later

-- A child stands at this place, with so many atoms and so many tokens of own children.
pub record ChildAt (all : List ℕ) (place atoms tokens : ℕ) (l : List ℕ) (own : Children) (rest : List ℕ) : Type 0 where
  pub head : ℕ
  pub here : drop place all ≡ head ∷ (l ++ (laid own ++ rest))
  pub count : atoms ≡ length l
  pub size : tokens ≡ length (laid own)
