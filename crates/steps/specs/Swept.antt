-- Step 4 over tokens: an atom of a child, its atoms, a child and all children against what the list says, in the book's values.
use Rattle.std.specs.Prelude.{◌≡◌, Bool, true, false, List, ℕ, ◌+◌, ◌%◌, ◌≤◌, eqb, length}
use Rattle.std.proofs.Math.Option.{Option, none, some}
use Rattle.rules.specs.Signs.{SignSet, empty, complement, intersect, inside}
use Rattle.rules.specs.Rounds.{says_in}
use Rattle.rules.specs.Level.{Formula, complemented, dual, parts, prune, enter, sweep, Walk}
use Rattle.removal_laws.specs.Settled.{Settled}
use Rattle.terms.specs.View.{sets_of}
use Rattle.table.specs.Table.{Table, form_at, Forms}
use Rattle.round.specs.declared.State.{State}
use Rattle.tape.specs.declared.walks.Walked.{Walked}
use Rattle.steps.specs.declared.sweeping.Cut.{Cut}
use Rattle.steps.specs.declared.sweeping.Pruned.{Pruned}
use Rattle.tape.specs.Row.{Lists}
use Rattle.tape.specs.Token.{slot, place, atom_of, atoms_in}
use Rattle.tape.specs.Tape.{Children, laid, ors_in}
use Rattle.tape.specs.Walked.{Stands, afterwards, load}
use Rattle.round.specs.Views.{state_of}
use Rattle.round.specs.Signing.{SignedTable}
use Rattle.search.specs.Words.{Words}

-- What asking the list needs: a state that rounds over the table settled in, the signs of all slots of the table on the state's board, and by these
-- the words of its atoms.
pub record Hears (t : Table) (state : State) (sign masks columns : List ℕ) (falls : Bool) : Type 0 where
  pub forms : Forms t
  pub variables : state.board.variables ≡ t.variables
  pub settles : Settled t.variables (state_of t state)
  pub signed : SignedTable t (sets_of state.board) sign
  pub long : length sign ≡ 1280
  pub words : Words t.coefficient t.monomial t.terms sign state.atoms masks columns falls

-- What the list says of the polynomial of a token.
abbrev pub said : Table → State → ℕ → SignSet
said t state token = says_in t.variables (state_of t state) (form_at t (slot token))

-- An atom of a child, which holds its sets complemented.
pub record CutIs (t : Table) (state : State) (token : ℕ) (r : Cut) : Type 0 where
  pub implied : inside (said t state token) (complement (token % 8)) ≡ r.implied
  pub gone : eqb (intersect (complement (token % 8)) (said t state token)) empty ≡ r.gone
  pub keeps : complemented (atom_of t r.token)
      ≡ record { polynomial = form_at t (slot token); set = intersect (complement (token % 8)) (said t state token); place = place token }

unfoldable pub unless_so : Bool → Formula → Option Formula
unless_so true kids = none
unless_so false kids = some kids

-- The atoms l of a child, whatever its own children are.
pub record PruneIs (t : Table) (state : State) (l : List ℕ) (r : Pruned) : Type 0 where
  pub list : List ℕ
  pub lists : Lists r.list list
  pub small : length list ≤ length l
  pub is : (own : Children) → prune t.variables (state_of t state) (dual (parts (atoms_in t l) (ors_in t own))) ≡ unless_so r.dropped (dual (parts (atoms_in t list) (ors_in t own)))

-- One child more, after those of the walk.
unfoldable pub after_pruned : Walk → Option Formula → Walk
after_pruned walk none = walk
after_pruned walk (some kids) = afterwards walk (enter kids)

pub record EntersPruned (t : Table) (state : State) (walked : Walked) (walk : Walk) (l : List ℕ) (own : Children) (after : Walked) : Type 0 where
  pub stands : Stands t after (after_pruned walk (prune t.variables (state_of t state) (dual (parts (atoms_in t l) (ors_in t own)))))
  pub grows : load after ≤ load walked + (length l + length (laid own) + 1)

pub record SweepIs (t : Table) (state : State) (children : Children) (walked : Walked) : Type 0 where
  pub stands : Stands t walked (sweep t.variables (state_of t state) (ors_in t children))
  pub small : load walked ≤ length (laid children)
