-- The search over a state, from the searches over its variables and over its atoms.
-- What is found of a variable comes before what is found of an atom.
use mathlib.Core.Path.{◌≡◌, refl, sym, ap, ◌∙◌}
use mathlib.Core.Bool.{Bool, true, false}
use mathlib.Core.List.{List, []}
use mathlib.Core.Option.{Option, none}
use Prim.Native.Nat.{ℕ}
use Rattle.rules.specs.Polynomial.{Atom, Board}
use Rattle.rules.specs.Rounds.{State, search_board, search_atoms, state_or, search}
use Rattle.search.specs.Search.{when_found}

module _ (n : ℕ) (st : State) (found : Bool) (sets : Board) (e : when_found found sets ≡ search_board n st.atoms st.board 0 n st.board) where
  -- of a variable
  pub found-of-board : found ≡ true → when_found true (record { board = sets; atoms = st.atoms }) ≡ search n st
  unfolding search state_or when_found
  found-of-board f =
      ap (λ (b : Bool). state_or st (when_found b sets) (search_atoms st.board [] st.atoms)) (sym f)
      ∙ ap (λ (x : Option Board). state_or st x (search_atoms st.board [] st.atoms)) e

  of-atoms : (b : Bool) (l : List Atom) → when_found b (record { board = st.board; atoms = l }) ≡ state_or st none (when_found b l)
  unfolding state_or when_found
  of-atoms true l = refl
  of-atoms false l = refl

  -- of an atom, or of none
  pub found-of-atoms : found ≡ false → (b : Bool) (l : List Atom) → when_found b l ≡ search_atoms st.board [] st.atoms
      → when_found b (record { board = st.board; atoms = l }) ≡ search n st
  unfolding search state_or when_found
  found-of-atoms f b l g =
      of-atoms b l
      ∙ ap (λ (x : Bool). state_or st (when_found x sets) (when_found b l)) (sym f)
      ∙ ap (λ (x : Option Board). state_or st x (when_found b l)) e
      ∙ ap (λ (y : Option (List Atom)). state_or st (search_board n st.atoms st.board 0 n st.board) y) g
