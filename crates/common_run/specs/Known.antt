-- What is known of a common run: it was made over the atoms that remained then, and since then only atoms have gone that no cut of it rests on.
use Rattle.std.specs.Prelude.{◌≡◌, Bool, true, false, List, ◌∷◌, ◌++◌, ℕ, get_or}
use Rattle.std.proofs.Math.Option.{none}
use Rattle.rules.specs.Polynomial.{Atom, which}
use Rattle.rules.specs.Rounds.{start, non_variable}
use Rattle.rules.specs.Level.{kept_unless}
use Rattle.turn_laws.specs.Some.{Some}
use Rattle.table.specs.Table.{Table, Forms, form_at}
use Rattle.round.specs.declared.State.{State}
use Rattle.round.specs.Views.{state_of}
use Rattle.rounds.specs.Afresh.{AfreshFrom}
use Rattle.common_run.specs.declared.run.Common.{Common}
use Rattle.common_run.specs.Marks.{marked_of}
use Rattle.common_run.specs.Run.{CommonOf}

-- c is a common run of the atoms that remain
pub record CommonRun (t : Table) (state : State) (remaining : List Atom) (c : Common) : Type 0 where
  pub over : List Atom
  pub first : State
  pub is_start : state_of t first ≡ start t.variables over
  pub ran : CommonOf t first c
  pub afresh : AfreshFrom t state over
  pub some : Some over remaining
  pub boards : (start t.variables over).board ≡ (start t.variables remaining).board
  pub marked : (round : ℕ) → Some (non_variable t.variables remaining) (marked_of c.marks.resting.first round t first.atoms)
  pub whole : c.whole ≡ true → over ≡ remaining

-- if it is known
abbrev pub Known : Table → State → List Atom → Common → Type 0
Known t state remaining c = c.known ≡ true → CommonRun t state remaining c

-- the atom between the others is of slot k, and no variable's
pub record Between (t : Table) (k : ℕ) (kept : List Atom) (a : Atom) (later : List Atom) : Type 0 where
  pub is : a.polynomial ≡ form_at t k
  pub no-variable : which t.variables a.polynomial ≡ none

-- the mark of slot k that tells of the run without its atom: of what cuts need, if no atom has gone
pub record MarkOf (c : Common) (k mark : ℕ) : Type 0 where
  pub whole : c.whole ≡ true → mark ≡ get_or c.marks.needed.first k 0
  pub fewer : c.whole ≡ false → mark ≡ get_or c.marks.resting.first k 0

-- the others are those that remain but for the atom of slot k
pub record Without (t : Table) (state : State) (c : Common) (k : ℕ) (others : List Atom) : Type 0 where
  pub kept : List Atom
  pub atom : Atom
  pub later : List Atom
  pub between : Between t k kept atom later
  pub are : others ≡ kept ++ later
  pub run : CommonRun t state (kept ++ (atom ∷ later)) c

-- what is known when the atom of slot k stays or is out
pub record Left (out : Bool) (k : ℕ) (c r : Common) : Type 0 where
  pub knows : (t : Table) (state : State) (kept : List Atom) (a : Atom) (later : List Atom) → Forms t → Between t k kept a later
      → Known t state (kept ++ (a ∷ later)) c → Known t state (kept_unless out a kept ++ later) r

-- what is known when any atom stays or is out
pub record Lost (out : Bool) (c r : Common) : Type 0 where
  pub knows : (t : Table) (state : State) (kept : List Atom) (a : Atom) (later : List Atom)
      → Known t state (kept ++ (a ∷ later)) c → Known t state (kept_unless out a kept ++ later) r
