-- Turns of the variables and findings of pairs, one after the other, from a board above the settled one: what they have left so far, and where they end.
use mathlib.Core.Path.{◌≡◌, sym, ap, ◌∙◌, subst}
use mathlib.Core.Bool.{true, false}
use mathlib.Core.List.{List}
use mathlib.Core.Option.{none}
use Prim.Native.Nat.{ℕ, ◌+◌, ◌≤◌}
use native.Mathlib.Omega.{arith}
use lib.IntN.{ℤ}
use lib.ListN.{length}
use Rattle.rules.specs.Signs.{SignSet}
use Rattle.rules.specs.Rounds.{search_board}
use Rattle.sign_laws.specs.Booleans.{never_both}
use Rattle.ending_laws.specs.Searches.{board-none-at}
use Rattle.turn_laws.specs.AfterTurns.{AfterTurns, no_turn, after_both, Floor, floor-later}
use Rattle.turn_laws.specs.Afresh.{afresh-after}
use Rattle.terms.specs.declared.Board.{Board}
use Rattle.terms.specs.View.{few, sets_of, length-numbers}
use Rattle.table.specs.declared.Atoms.{Atoms}
use Rattle.table.specs.Table.{Table, atoms_of}
use Rattle.round.specs.Views.{table_of}
use Rattle.ahead.specs.declared.Passed.{Passed}
use Rattle.ahead.specs.Ahead.{Ahead}
use Rattle.search.specs.declared.variables.OfBoard.{OfBoard}
use Rattle.search.specs.Search.{when_found, SearchedBoard}
use Rattle.rounds.specs.Afresh.{AboveFloor, above_on}
use Rattle.rounds.specs.Turned.{Settling}
use Rattle.rounds.proofs.Found.{found_after}

pub ahead-over : (cs : List ℤ) (ms ts : List ℕ) {n m : ℕ} → n ≡ m → {a : Atoms} {b : Board} {r : Passed} {ss : List SignSet} → Ahead (table_of cs ms ts n) a b r ss
    → Ahead (table_of cs ms ts m) a b r ss
ahead-over cs ms ts same {a} {b} {r} {ss} = subst (λ (k : ℕ). Ahead (table_of cs ms ts k) a b r ss) same

-- what has been left of the first board so far
pub record Narrowing (t : Table) (a : Atoms) (first board : Board) : Type 0 where
  pub variables : board.variables ≡ t.variables
  pub after : AfterTurns t.variables (atoms_of t a) (sets_of first) (sets_of board)

pub narrow-first : {t : Table} (a : Atoms) (first : Board) → first.variables ≡ t.variables → Narrowing t a first first
narrow-first a first v = record { variables = v; after = no_turn }

module _ {t : Table} {a : Atoms} {first board : Board} (narrowing : Narrowing t a first board) where
  -- it is above the settled board, and no turn goes below the floor
  pub narrow-above : {floor : Board} → AboveFloor t (record { board = first; atoms = a }) floor → AboveFloor t (record { board = board; atoms = a }) floor
  narrow-above above = above_on above (afresh-after above.afresh narrowing.after).boards

  pub narrow-floor : {floor : List SignSet} → Floor t.variables (atoms_of t a) (sets_of first) floor → Floor t.variables (atoms_of t a) (sets_of board) floor
  narrow-floor below = floor-later narrowing.after below

  -- after turns
  pub narrow-turns : {r : Passed} {ss : List SignSet} → Ahead t a board r ss → Narrowing t a first r.board
  narrow-turns passed = record { variables = passed.variables; after = after_both narrowing.after passed.after }

  -- after a finding
  pub narrow-found : {r : OfBoard} → t.variables ≤ 16 → SearchedBoard t board a r → r.found ≡ true → Narrowing t a first r.board
  unfolding when_found
  narrow-found {r} low s e =
      let n = t.variables in
      let long : length (sets_of board) ≤ n = omega (arith, length-numbers board.sets 0 (few board.variables), narrowing.variables, low) in
      let found = found_after n (atoms_of t a) (sets_of board) {found = sets_of r.board} long (sym s.found ∙ rw e) in
      record { variables = s.variables ∙ narrowing.variables; after = after_both narrowing.after found }

  -- they end where a turn is not idle, and it is told
  pub ends-moving : {r : Passed} {ss : List SignSet} → Ahead t a board r ss → r.still ≡ false → Settling t a first r
  ends-moving passed e = record {
    variables = passed.variables;
    after = after_both narrowing.after passed.after;
    idle = λ f i h. never_both f e;
    pairs_idle = λ f i h. never_both f e;
  }

  -- or where each is idle, and no pair finds anything of a variable
  pub ends-still : {r : Passed} {found : OfBoard} {ss : List SignSet} → t.variables ≤ 16 → Ahead t a board r ss → SearchedBoard t r.board a found → found.found ≡ false
      → Settling t a first r
  unfolding when_found
  ends-still {r} low passed s e =
      let n = t.variables in
      let idle : search_board n (atoms_of t a) (sets_of r.board) 0 n (sets_of r.board) ≡ none = sym s.found ∙ rw e in
      record {
        variables = passed.variables;
        after = after_both narrowing.after passed.after;
        idle = passed.idle;
        pairs_idle = λ f i h.
            let here : 0 + i ≡ i = omega arith in
            rw here at (board-none-at n (atoms_of t a) (sets_of r.board) 0 n (sets_of r.board) idle i h
            (omega (arith, h, length-numbers r.board.sets 0 (few r.board.variables), passed.variables, low)));
      }

  -- or where there were too many findings
  pub ends-early : {r : Passed} → r.board ≡ board → r.still ≡ false → Settling t a first r
  ends-early {r} same e = record {
    variables = ap (λ (b : Board). b.variables) same ∙ narrowing.variables;
    after = subst (λ (b : Board). AfterTurns t.variables (atoms_of t a) (sets_of first) (sets_of b)) (sym same) narrowing.after;
    idle = λ f i h. never_both f e;
    pairs_idle = λ f i h. never_both f e;
  }
