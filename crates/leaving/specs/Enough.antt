-- What atoms are to be enough for, and which are left, over tokens: what the functions ask and what they leave, in the book's values.
use Rattle.std.specs.Prelude.{◌≡◌, Bool, true, false, List, ◌++◌, ℕ, ◌+◌, ◌-◌, ◌<◌, ◌≤◌, length, drop}
use Rattle.rules.specs.Polynomial.{Atom}
use Rattle.rules.specs.Rounds.{run}
use Rattle.rules.specs.Level.{plain, plains, implied}
use Rattle.removal_laws.specs.Apart.{Apart}
use Rattle.table.specs.Table.{Table}
use Rattle.tape.specs.declared.rows.Row.{Row}
use Rattle.tape.specs.Row.{Lists}
use Rattle.tape.specs.Token.{atom_of, atoms_in}
use Rattle.round.specs.declared.State.{State}
use Rattle.rounds.specs.Afresh.{AfreshFrom}
use Rattle.rules.specs.Reasons.{has_contradiction, leave_out}
use Rattle.leaving.specs.declared.Question.{Question}

-- A contradiction of their rounds, or that what they say of an atom lies inside its set.
unfoldable pub enough_if : Bool → ℕ → Atom → List Atom → Bool
enough_if true n a l = has_contradiction (run n l)
enough_if false n a l = implied n l a

unfoldable pub enough_for : Table → Question → List ℕ → Bool
enough_for t q l = enough_if q.contradiction t.variables (plain (atom_of t q.token)) (plains (atoms_in t l))

-- ---- What is asked of the tokens.

-- No polynomial is there twice; where rounds are run afresh, the atoms carry the sets of the state.
pub record Proper (t : Table) (q : Question) (l : List ℕ) : Type 0 where
  pub apart : Apart (plains (atoms_in t l))
  pub afresh : q.contradiction ≡ false → AfreshFrom t q.state (plains (atoms_in t l))

-- A row of at most 64 tokens.
pub record Holding (list : Row) : Type 0 where
  pub tokens : List ℕ
  pub lists : Lists list tokens
  pub few : length tokens ≤ 64

-- For fresh rounds over a row.
pub record Carrying (t : Table) (state : State) (list : Row) : Type 0 where
  pub tokens : List ℕ
  pub lists : Lists list tokens
  pub few : length tokens ≤ 64
  pub afresh : AfreshFrom t state (plains (atoms_in t tokens))

-- For the kept tokens and those of the list from an index on.
pub record Asks (t : Table) (q : Question) (kept list : Row) (from : ℕ) : Type 0 where
  pub before : List ℕ
  pub tokens : List ℕ
  pub kept_lists : Lists kept before
  pub lists : Lists list tokens
  pub low : from ≤ length tokens
  pub short : length tokens ≤ 64
  pub few : length before + (length tokens - from) ≤ 64
  pub proper : Proper t q (before ++ drop from tokens)

-- And these are enough.
pub record AsksEnough (t : Table) (q : Question) (kept list : Row) (from : ℕ) : Type 0 where
  pub asks : Asks t q kept list from
  pub enough : enough_for t q (asks.before ++ drop from asks.tokens) ≡ true

pub record AsksAll (t : Table) (q : Question) (list : Row) : Type 0 where
  pub tokens : List ℕ
  pub lists : Lists list tokens
  pub few : length tokens ≤ 64
  pub proper : Proper t q tokens
  pub enough : enough_for t q tokens ≡ true

-- ---- What is left.

-- r is the last index from which on the tokens are enough beside those kept.
pub record LastEnough (t : Table) (q : Question) (before tokens : List ℕ) (from r : ℕ) : Type 0 where
  pub least : from ≤ r
  pub most : r ≤ length tokens
  pub enough : enough_for t q (before ++ drop r tokens) ≡ true
  pub last : r < length tokens → enough_for t q (before ++ drop (r + 1) tokens) ≡ false

-- The row has those that are left.
pub record LeavesOut (t : Table) (q : Question) (l : List ℕ) (r : Row) : Type 0 where
  pub lists : Lists r (leave_out (enough_for t q) l)
  pub small : length (leave_out (enough_for t q) l) ≤ length l
