-- What a state holds for a polynomial: its atom's set in the list, or its variable's on the board.
use mathlib.Core.Path.{◌≡◌, sym}
use Prim.Native.Nat.{ℕ, ◌<◌}
use lib.ListN.{get_or}
use Rattle.rules.specs.Rounds.{listed, held}
use Rattle.terms.specs.View.{few}
use Rattle.table.specs.Table.{Table, form_at, atoms_of}
use Rattle.round.specs.declared.State.{State}
use Rattle.round.specs.declared.slots.Holds.{Holds}
use Rattle.round.specs.declared.slots.Holds.TheVariants.{Variable, Form}
use Rattle.round.specs.Views.{variable_of, state_of}
use Rattle.round.specs.Boards.{set_at}

module _ (t : Table) (st : State) (number : ℕ) {holds : Holds} where
  pub held-in-list : holds ≡ Form → listed (form_at t number) (atoms_of t st.atoms) ≡ held (variable_of holds) (state_of t st) (form_at t number)
  unfolding held
  held-in-list e = rw e

  pub held-on-board : {i : ℕ} → holds ≡ Variable i → i < few st.board.variables
      → get_or st.board.sets i 0 ≡ held (variable_of holds) (state_of t st) (form_at t number)
  unfolding held
  held-on-board {i} e h = rw e (sym (set_at st.board.sets i (few st.board.variables) h))
