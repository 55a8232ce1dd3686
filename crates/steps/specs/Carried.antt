-- Steps 3 and 5 over tokens: the tokens with other sets, and what the two steps leave, in the book's values.
use Rattle.std.specs.Prelude.{◌≡◌, false, List, [], ◌∷◌, ℕ, suc, ◌+◌, ◌*◌, ◌/◌, ◌%◌, ◌≤◌, max, length, get_or}
use Rattle.std.proofs.Common.{sym}
use Rattle.rules.specs.Rounds.{run, carried}
use Rattle.rules.specs.Level.{plains, carry, remove_implied}
use Rattle.rules.specs.Count.{run_count, removal_count}
use Rattle.removal_laws.specs.Settled.{Settled}
use Rattle.terms.specs.View.{sets_of}
use Rattle.table.specs.Table.{Table, atoms_of}
use Rattle.tape.specs.declared.rows.Row.{Row}
use Rattle.steps.specs.declared.carrying.Carrying.{Carrying}
use Rattle.tape.specs.Row.{Lists}
use Rattle.tape.specs.Token.{atoms_in}
use Rattle.round.specs.declared.State.{State}
use Rattle.round.specs.Views.{state_of}
use Rattle.rounds.specs.Views.{ending}
use Rattle.settled.specs.Remaining.{CarriedFrom}
use Rattle.settled.specs.Ends.{ends-settled}

-- Tokens with the sets from place i on.
unfoldable pub with_sets : List ℕ → ℕ → List ℕ → List ℕ
with_sets sets i [] = []
with_sets sets i (x ∷ l) = (x / 8 * 8 + get_or sets i 0 % 8) ∷ with_sets sets (suc i) l

-- ---- The two steps.

pub record Carries (t : Table) (l : List ℕ) (largest : ℕ) (row : Row) (r : Carrying) : Type 0 where
  pub is : run t.variables (plains (atoms_in t l)) ≡ ending r.contradiction (state_of t r.state)
  pub counts : r.rounds ≡ max largest (run_count t.variables (plains (atoms_in t l)))
  pub variables : r.state.board.variables ≡ t.variables
  pub list : List ℕ
  pub lists : Lists row list
  pub same : length list ≡ length l
  pub carries : r.contradiction ≡ false
      → carry (atoms_in t l) (carried t.variables (sets_of r.state.board) (plains (atoms_in t l)) (atoms_of t r.state.atoms)) ≡ atoms_in t list

-- where there is no contradiction, the state is settled
pub carry-settles : {t : Table} (l : List ℕ) (largest : ℕ) {row : Row} {r : Carrying} → Carries t l largest row r → r.contradiction ≡ false
    → Settled t.variables (state_of t r.state)
carry-settles {t} l largest c e = ends-settled t.variables (plains (atoms_in t l)) (sym c.is) e

-- What step 5 asks: the row lists what step 3 left beside the state.
pub record LeftBy (t : Table) (state : State) (row : Row) : Type 0 where
  pub list : List ℕ
  pub lists : Lists row list
  pub carries : CarriedFrom t state (plains (atoms_in t list))

pub record Remains (t : Table) (l : List ℕ) (largest : ℕ) (row : Row) (rounds : ℕ) : Type 0 where
  pub list : List ℕ
  pub lists : Lists row list
  pub small : length list ≤ length l
  pub is : remove_implied t.variables [] (atoms_in t l) ≡ atoms_in t list
  pub counts : rounds ≡ max largest (removal_count t.variables [] (atoms_in t l))
