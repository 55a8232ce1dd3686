-- The one board between two turns: what the turns so far have left of it, and what those that are left make of that.
-- `narrowing` is how it begins, `narrowed` a turn more, `narrowed-all` how it ends.
use mathlib.Core.Path.{◌≡◌, refl, sym, ◌∙◌, subst}
use mathlib.Core.List.{List}
use Prim.Native.Nat.{ℕ, ◌+◌, ◌-◌, ◌<◌, ◌≤◌}
use native.Mathlib.Nat.{sub-zero}
use native.Mathlib.Omega.{arith}
use lib.IntN.{ℤ}
use lib.ListN.{length}
use Rattle.rules.specs.Signs.{SignSet}
use Rattle.rules.specs.Rounds.{turn, turns}
use Rattle.turn_laws.specs.AfterTurns.{AfterTurns, no_turn, one-more, Floor}
use Rattle.terms.specs.declared.Board.{Board}
use Rattle.terms.specs.View.{sets_of}
use Rattle.table.specs.declared.Atoms.{Atoms}
use Rattle.table.specs.Table.{Table, atoms_of}
use Rattle.round.specs.Views.{table_of}
use Rattle.round.specs.Signing.{Ready}
use Rattle.round.specs.Round.{Turned}
use Rattle.round.specs.Floors.{FloorAt, floor-at}
use Rattle.round.specs.Over.{ready-over, floor-at-over, turned-over}
use Rattle.round.specs.Boards.{turns-step, turns-end}

module _ (cs : List ℤ) (ms ts : List ℕ) (l : Atoms) (first : Board) (signs : List SignSet) where
  abbrev t : Table
  t = table_of cs ms ts first.variables

  -- after the turns of the first i variables: the board and the signs at hand
  pub record Narrowing (i : ℕ) (board : Board) (sign : List SignSet) : Type 0 where
    pub most : i ≤ first.variables
    pub variables : board.variables ≡ first.variables
    pub places : length sign ≡ length signs
    pub ready : Ready t (sets_of board) l sign
    pub after : AfterTurns first.variables (atoms_of t l) (sets_of first) (sets_of board)
    pub rest : turns first.variables (atoms_of t l) (sets_of board) i (first.variables - i)
        ≡ turns first.variables (atoms_of t l) (sets_of first) 0 first.variables

  pub narrowing : Ready t (sets_of first) l signs → Narrowing 0 first signs
  narrowing ready = record { most = omega arith; variables = refl; places = refl; ready = ready; after = no_turn; rest = rw sub-zero }

  module _ {i : ℕ} {board : Board} {sign : List SignSet} (u : Narrowing i board sign) where
    -- the table with the number of variables that the board at hand has
    abbrev at_hand : Table
    at_hand = table_of cs ms ts board.variables

    -- what the next turn asks, and the board after it
    pub asked : (floor : Board) → (floor.variables ≡ first.variables) × Floor first.variables (atoms_of t l) (sets_of first) (sets_of floor)
        → i < first.variables
        → (Ready at_hand (sets_of board) l sign × (i < board.variables)) × FloorAt at_hand l board floor i
    asked floor (same, below) h =
        let its = floor-at t l first board floor u.after u.variables u.ready.forms.variables same below i h in
        let own = sym u.variables in
        ((ready-over cs ms ts own u.ready, omega (arith, u.variables)), floor-at-over cs ms ts own l board floor i its)

    pub narrowed : (r : Board) (zs : List SignSet) → i < first.variables → length zs ≡ length sign
        → Turned at_hand l (turn board.variables (atoms_of at_hand l) (sets_of board) i) r zs → Narrowing (i + 1) r zs
    narrowed r zs h e said =
        let a = turned-over cs ms ts u.variables (sets_of board) i said in
        record {
          most = omega arith;
          variables = a.variables;
          places = e ∙ u.places;
          ready = a.ready;
          after = subst (AfterTurns first.variables (atoms_of t l) (sets_of first)) (sym a.sets) (one-more i h u.after);
          rest = rw a.sets (sym (turns-step _ _ _ _ _ h) ∙ u.rest);
        }

    pub narrowed-all : first.variables ≤ i → Turned t l (turns first.variables (atoms_of t l) (sets_of first) 0 first.variables) board sign
    narrowed-all h = record { variables = u.variables; sets = sym (turns-end _ _ _ _ _ h) ∙ u.rest; ready = u.ready }
