-- What a level and a walk over OR children hold, in the book's values.
use Rattle.std.specs.Prelude.{◌≡◌, Bool, true, false, List, [], ◌∷◌, ◌++◌, ℕ, ◌+◌, ◌<◌, ◌≤◌}
use Rattle.rules.specs.Level.{Placed, Formula, parts, Entry, fails, joins, stays, Walk, falls, still, moved}
use Rattle.table.specs.Table.{Table}
use Rattle.tape.specs.declared.walks.Level.{Level}
use Rattle.tape.specs.declared.walks.Walked.{Walked}
use Rattle.tape.specs.Row.{Lists}
use Rattle.tape.specs.Token.{atoms_in}
use Rattle.tape.specs.Tape.{Children, laid, ors_in}

-- The level holds these parts of an AND.
pub record Shows (t : Table) (level : Level) (kids : Formula) : Type 0 where
  pub list : List ℕ
  pub children : Children
  pub lists : Lists level.atoms list
  pub lies : Lists level.ors (laid children)
  pub is : parts (atoms_in t list) (ors_in t children) ≡ kids

-- How many tokens a level has.
abbrev pub size_of : Level → ℕ
size_of level = level.atoms.count + level.ors.count

-- ---- A walk.

unfoldable pub walk_of : Bool → Bool → List Placed → List Formula → Walk
walk_of true some-moved new ors = falls
walk_of false true new ors = moved new ors
walk_of false false new ors = still ors

-- The walk has found so much so far.
pub record Stands (t : Table) (walked : Walked) (walk : Walk) : Type 0 where
  pub new : List ℕ
  pub children : Children
  pub lists : Lists walked.new new
  pub lies : Lists walked.ors (laid children)
  pub is : walk_of walked.falls walked.moved (atoms_in t new) (ors_in t children) ≡ walk
  pub quiet : walked.moved ≡ false → new ≡ []

-- One child more, after those of the walk.
unfoldable pub afterwards : Walk → Entry → Walk
afterwards falls entry = falls
afterwards (still ors) fails = falls
afterwards (still ors) (joins l more) = moved l (ors ++ more)
afterwards (still ors) (stays kids) = still (ors ++ (kids ∷ []))
afterwards (moved new ors) fails = falls
afterwards (moved new ors) (joins l more) = moved (new ++ l) (ors ++ more)
afterwards (moved new ors) (stays kids) = moved new (ors ++ (kids ∷ []))

-- How many tokens its rows have, and the same with one more if a child joined or was spliced.
abbrev pub room : Walked → ℕ
room walked = walked.new.count + walked.ors.count

abbrev pub one_if : Bool → ℕ
one_if true = 1
one_if false = 0

abbrev pub load : Walked → ℕ
load walked = room walked + one_if walked.moved

-- A level of n tokens has entered. The load grows by n + 1 at most; the rows grow by k + 1 at most, where k is at least n or n is at most 1.
pub record Goes (t : Table) (walked : Walked) (walk : Walk) (n : ℕ) (after : Walked) (entry : Entry) : Type 0 where
  pub stands : Stands t after (afterwards walk entry)
  pub grows : load after ≤ load walked + (n + 1)
  pub fits : (k : ℕ) → (1 < n → n ≤ k) → room after ≤ room walked + (k + 1)
