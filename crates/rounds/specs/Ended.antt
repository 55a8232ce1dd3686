-- What the rounds to their end ensure: the outcome, how many were begun, and the state that the last one left.
-- The rounds are counted up to the book's own number.
use Rattle.std.specs.Prelude.{◌≡◌, Bool, true, false}
use Rattle.std.proofs.Math.Option.{Option, some}
use Rattle.rules.specs.Rounds.{unchanged, search, rounds, begun, enough}
use Rattle.table.specs.Table.{Table}
use Rattle.round.specs.declared.State.{State}
use Rattle.round.specs.Views.{state_of}
use Rattle.search.specs.declared.Found.{Found}
use Rattle.search.specs.Search.{when_found}
use Rattle.rounds.specs.declared.Counted.{Counted}
use Rattle.rounds.specs.Views.{counted_outcome}

-- where the next round begins, if one is: with what the last one left, or, if that changed nothing, with what a pair found in it
unfoldable pub further_from : {A : Type 0} → Bool → Option A → A → Option A
further_from true found left = found
further_from false found left = some left

-- r is where the round after the one from st to su begins
pub record Furthered (t : Table) (st su : State) (r : Found) : Type 0 where
  pub found : when_found r.found (state_of t r.state)
      ≡ further_from (unchanged (state_of t st) (state_of t su)) (search t.variables (state_of t su)) (state_of t su)
  pub variables : r.state.board.variables ≡ t.variables
  pub count : r.state.atoms.count ≡ su.atoms.count
  pub number : r.state.atoms.number ≡ su.atoms.number
  pub itself : r.found ≡ false → r.state ≡ su

-- r is how the rounds from st end
pub record Ended (t : Table) (st : State) (r : Counted) : Type 0 where
  pub outcome : counted_outcome t r ≡ rounds t.variables (enough (state_of t st)) (state_of t st)
  pub begun : r.begun ≡ begun t.variables (enough (state_of t st)) (state_of t st)
  pub variables : r.state.board.variables ≡ t.variables
  pub count : r.state.atoms.count ≡ st.atoms.count
  pub number : r.state.atoms.number ≡ st.atoms.number
