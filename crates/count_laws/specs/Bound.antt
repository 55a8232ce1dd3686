-- Request #108: the bound of a run that cuts no atom, from wherever it has come to: it takes at most one round more from there than the signs that its
-- board has above the settled one. So it can be left where that is no more than the largest number so far.
use Rattle.std.specs.Prelude.{◌≡◌, refl, Bool, true, false, List, ℕ, zero, suc, ◌+◌, ◌≤◌, ◌<◌}
use Rattle.std.proofs.Common.{sym, ◌∙◌, arith}
use Rattle.std.proofs.Math.Path.{ap}
use Rattle.std.proofs.Math.Option.{Option, none, some}
use Rattle.rules.specs.Polynomial.{Atom, Board}
use Rattle.rules.specs.Rounds.{turns, State, round, sets_of, same_sets, search_board, state_or, search}
use Rattle.ending_laws.specs.Cuts.{spare_all, spare_of, round-spare, round-falls}
use Rattle.ending_laws.specs.Searches.{searched}
use Rattle.removal_laws.specs.Rounds.{LowBoard, Low}
use Rattle.removal_laws.specs.Settled.{search-low}
use Rattle.turn_laws.specs.Afresh.{Afresh, no-empty, no-atom-cut, afresh-round, by-variables, afresh-found}
use Rattle.count_laws.specs.Fresh.{wider-spare, all-low, some-low}
use Rattle.count_laws.specs.Boards.{unless_still, turned_rounds, still-by-board}
use Rattle.count_laws.specs.Common.{turns-stay-low}

-- The state on another board.
abbrev pub on : State → Board → State
on su board = record { board = board; atoms = su.atoms }

-- The board that the turns of all variables leave.
abbrev pub turned : ℕ → State → Board
turned n su = turns n su.atoms su.board 0 n

module _ {n : ℕ} {st su : State} (t : Afresh n st su) (low : LowBoard su.board) where
  -- A round leaves such a state again,
  pub turned-above : Afresh n st (on su (turned n su))
  unfolding round
  turned-above = record { still = t.still; boards = (afresh-round t).boards; lists = t.lists }

  pub turned-low : LowBoard (turned n su)
  turned-low = turns-stay-low n su.atoms su.board low 0 n

  same-atoms : spare_all (sets_of (round n su).atoms) ≡ spare_all (sets_of su.atoms)
  same-atoms = ap (λ (l : List Atom). spare_all (sets_of l)) (no-atom-cut t)

  -- gives no sign back,
  turned-spare : spare_all (turned n su) ≤ spare_all su.board
  unfolding spare_of round
  turned-spare = omega (arith, round-spare n su (all-low t low), same-atoms)

  -- and takes one if it changes the board.
  turned-falls : same_sets su.board (turned n su) ≡ false → spare_all (turned n su) < spare_all su.board
  unfolding spare_of round
  turned-falls e = omega (arith, round-falls n su (all-low t low) (no-empty (afresh-round t)) (still-by-board t ∙ e), same-atoms)

  -- So does what a pair finds of a variable.
  finds : {board : Board} → search_board n su.atoms su.board 0 n su.board ≡ some board → search n su ≡ some (on su board)
  unfolding state_or
  finds e = by-variables t ∙ ap (λ (o : Option Board). state_or su o none) e

  pub found-above : {board : Board} → search_board n su.atoms su.board 0 n su.board ≡ some board → Afresh n st (on su board)
  found-above e = afresh-found t (finds e)

  lows : Low su
  lows = record { board = low; atoms = some-low t.lists t.still.low.atoms }

  pub found-low : {board : Board} → search_board n su.atoms su.board 0 n su.board ≡ some board → LowBoard board
  found-low e = (search-low n su (finds e) lows).board

  found-falls : {board : Board} → search_board n su.atoms su.board 0 n su.board ≡ some board → spare_all board < spare_all su.board
  unfolding spare_of
  found-falls e = omega (arith, (searched n su (finds e)).falls (all-low t low) (no-empty (found-above e)))

-- What is left of a run after a round that left such a state.
further : {n : ℕ} {st su : State} (t : Afresh n st su) (low : LowBoard su.board) (k : ℕ)
    → ((sv : State) → Afresh n st sv → LowBoard sv.board → turned_rounds n sv.atoms k sv.board + spare_all st.board ≤ spare_all sv.board + 1)
    → (still : Bool) → same_sets su.board (turned n su) ≡ still → (found : Option Board) → search_board n su.atoms (turned n su) 0 n (turned n su) ≡ found
    → unless_still still found (turned n su) (λ (b : Board). turned_rounds n su.atoms k b) + spare_all st.board ≤ spare_all su.board
unfolding unless_still
further {su} t low k most true e none f = omega (arith, wider-spare t.boards)
further {n} {su = su} t low k most true e (some board) f =
    let on-turned = turned-above t low in
    let low-turned = turned-low t low in
    omega (
      arith,
      most (on su board) (found-above on-turned low-turned f) (found-low on-turned low-turned f),
      found-falls on-turned low-turned f,
      turned-spare t low,
    )
further {n} {su = su} t low k most false e found f = omega (arith, most (on su (turned n su)) (turned-above t low) (turned-low t low), turned-falls t low e)

-- From any state above the settled one.
pub onward-at-most : {n : ℕ} {st su : State} → Afresh n st su → LowBoard su.board → (k : ℕ)
    → turned_rounds n su.atoms k su.board + spare_all st.board ≤ spare_all su.board + 1
unfolding turned_rounds
onward-at-most t low zero = omega (arith, wider-spare t.boards)
onward-at-most t low (suc k) = omega (arith, further t low k (λ sv u l. onward-at-most u l k) _ refl _ refl)
