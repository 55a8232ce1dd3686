-- Steps 2 to 6: what a stage of settling holds, and what comes of it, in the book's values.
use Rattle.std.specs.Prelude.{◌≡◌, Bool, true, false, List, [], ℕ, suc, ◌+◌, ◌<◌, ◌≤◌, max, length}
use Rattle.rules.specs.Level.{Placed, Formula, parts, settled_down, after_gather, Walk}
use Rattle.rules.specs.Count.{settled_count, gathered_count}
use Rattle.table.specs.Table.{Table}
use Rattle.tape.specs.declared.rows.Row.{Row}
use Rattle.tape.specs.declared.walks.Level.{Level}
use Rattle.tape.specs.declared.walks.Walked.{Walked}
use Rattle.level.specs.declared.settling.Stage.{Stage}
use Rattle.tape.specs.Row.{row_of, Lists}
use Rattle.tape.specs.Token.{atoms_in}
use Rattle.tape.specs.Tape.{Children, none, child, laid, ors_in}
use Rattle.tape.specs.Walked.{Shows, Stands, size_of, room}

-- The rows that say that the node is false: no atoms, and an OR with no parts. No run is counted for it.
pub record NodeIsFalse (atoms ors : Row) (largest : ℕ) (r : Stage) : Type 0 where
  pub ends : r.over ≡ true
  pub counts : r.rounds ≡ largest
  pub lists : Lists atoms []
  pub lies : Lists ors (laid (child [] none none))

-- The parts, if the stage is over; else what settling on would give.
unfoldable pub result_of : Bool → ℕ → List Placed → List Formula → Formula
result_of true n l ors = parts l ors
result_of false n l ors = settled_down n l ors

-- The rounds that settling on would count.
unfoldable pub count_of : Bool → ℕ → List Placed → List Formula → ℕ
count_of true n l ors = 0
count_of false n l ors = settled_count n l ors

-- A stage of settling the atoms l and the children, in two lists. It has at most as many tokens, or one alone; and fewer by e unless it is over.
pub record StageIs (t : Table) (l : List ℕ) (children : Children) (largest e : ℕ) (atoms ors : List ℕ) (r : Stage) : Type 0 where
  pub list : List ℕ
  pub left : Children
  pub lists : Lists (row_of atoms r.atoms) list
  pub lies : Lists (row_of ors r.ors) (laid left)
  pub is : result_of r.over t.variables (atoms_in t list) (ors_in t left) ≡ settled_down t.variables (atoms_in t l) (ors_in t children)
  pub counts : max r.rounds (count_of r.over t.variables (atoms_in t list) (ors_in t left)) ≡ max largest (settled_count t.variables (atoms_in t l) (ors_in t children))
  pub small : 1 < length list + length (laid left) → length list + length (laid left) ≤ length l + length (laid children)
  pub tight : r.over ≡ false → length list + length (laid left) + e ≤ length l + length (laid children)

-- A node's n atoms and m tokens of OR children in two lists of 256 places, one of which has room for all.
pub record Ready (atoms : List ℕ) (n : ℕ) (ors : List ℕ) (m : ℕ) : Type 0 where
  pub list : List ℕ
  pub children : Children
  pub lists : Lists (row_of atoms n) list
  pub lies : Lists (row_of ors m) (laid children)
  pub fits : n + m ≤ 256
  pub long : length atoms ≡ 256
  pub wide : length ors ≡ 256

-- The level that a stage has in two lists.
abbrev pub level_of : List ℕ → List ℕ → Stage → Level
level_of atoms ors stage = record { atoms = row_of atoms stage.atoms; ors = row_of ors stage.ors }

pub record SettleIs (t : Table) (l : List ℕ) (children : Children) (largest : ℕ) (r : Level) (rounds : ℕ) : Type 0 where
  pub shows : Shows t r (settled_down t.variables (atoms_in t l) (ors_in t children))
  pub counts : rounds ≡ max largest (settled_count t.variables (atoms_in t l) (ors_in t children))
  pub small : 1 < size_of r → size_of r ≤ length l + length (laid children)

-- What the way back counts down: the tokens of a stage that is not over.
abbrev pub due : Bool → ℕ → ℕ
due true n = 0
due false n = suc n

-- ---- After step 1.

pub record Gathered (atoms : Row) (walked : Walked) : Type 0 where
  pub table : Table
  pub list : List ℕ
  pub walk : Walk
  pub lists : Lists atoms list
  pub stands : Stands table walked walk
  pub fits : atoms.count + room walked ≤ 256

pub record FinishIs (t : Table) (l : List ℕ) (walk : Walk) (n largest : ℕ) (r : Level) (rounds : ℕ) : Type 0 where
  pub shows : Shows t r (after_gather t.variables (atoms_in t l) walk)
  pub counts : rounds ≡ max largest (gathered_count t.variables (atoms_in t l) walk)
  pub small : 1 < size_of r → size_of r ≤ n
