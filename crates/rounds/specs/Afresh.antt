-- What rounds run afresh start from: some of the atoms that carry the sets of a state that rounds settled in.
-- And sets at which no pair finds anything of a variable, on each board above the settled one (02, #111).
use Rattle.std.specs.Prelude.{◌≡◌, false, List, [], ◌∷◌, ℕ, zero, suc, ◌≤◌, eqb, get_or}
use Rattle.std.proofs.Common.{◌∙◌, arith, lit<, eq-eqb}
use Rattle.rules.specs.Signs.{empty, full}
use Rattle.rules.specs.Polynomial.{Atom}
use Rattle.rules.specs.Polynomial.{Board as Sets}
use Rattle.rules.specs.Deduce.{any_empty}
use Rattle.rules.specs.Rounds.{run, settled, carried}
use Rattle.rules.specs.Rounds.{State as Standing}
use Rattle.sign_laws.specs.Booleans.{neither, never_both}
use Rattle.sign_laws.specs.Lists.{every-get_d}
use Rattle.ending_laws.specs.Cuts.{none-empty}
use Rattle.removal_laws.specs.Wider.{Wider}
use Rattle.turn_laws.specs.Some.{Some}
use Rattle.turn_laws.specs.Afresh.{Afresh, no-empty, floor-pairs}
use Rattle.terms.specs.declared.Board.{Board}
use Rattle.terms.specs.View.{few, sets_of}
use Rattle.table.specs.declared.Atoms.{Atoms}
use Rattle.table.specs.Table.{Table, atoms_of}
use Rattle.round.specs.declared.State.{State}
use Rattle.round.specs.Views.{state_of}
use Rattle.round.specs.Boards.{set_at}
use Rattle.search.specs.Filled.{Filled, filled-low, filled-wider}
use Rattle.search.specs.Search.{PairsFloor, Nowhere}

-- The atoms are some of those that carry their sets from the state, which the rounds over a list settled in.
pub record AfreshFrom (t : Table) (state : State) (others : List Atom) : Type 0 where
  pub given : List Atom
  pub settles : run t.variables given ≡ settled (state_of t state)
  pub variables : state.board.variables ≡ t.variables
  pub some : Some (carried t.variables (sets_of state.board) given (atoms_of t state.atoms)) others

-- The state has some of the atoms of a settled one, and a board above its board; and on such a board no pair of its atoms finds anything of a variable
-- that has its floor's set.
pub record AboveFloor (t : Table) (su : State) (floor : Board) : Type 0 where
  pub settled : Standing
  pub afresh : Afresh t.variables settled (state_of t su)
  pub variables : floor.variables ≡ t.variables
  pub pairs : (board : Sets) → Wider settled.board board → PairsFloor t.variables (atoms_of t su.atoms) board (sets_of floor)

-- the state on a board above the settled one
pub afresh-on : {n : ℕ} {st su : Standing} → Afresh n st su → {board : Sets} → Wider st.board board → Afresh n st (record { board = board; atoms = su.atoms })
afresh-on a w = record { still = a.still; boards = w; lists = a.lists }

pub above_on : {t : Table} {b floor : Board} {a : Atoms} (above : AboveFloor t (record { board = b; atoms = a }) floor) {next : Board}
    → Wider above.settled.board (sets_of next) → AboveFloor t (record { board = next; atoms = a }) floor
above_on above w = record { settled = above.settled; afresh = afresh-on above.afresh w; variables = above.variables; pairs = above.pairs }

-- each of its sets has a sign
pub afresh-filled : {n : ℕ} {st su : Standing} → Afresh n st su → Filled su.board
afresh-filled {st = st} a = filled-wider a.boards (filled-low st.board (λ i h. every-get_d i full (lit< tt) a.still.low.board) (none-empty st a.still.filled).0)

-- the settled board is such a floor
pub above-settled : {t : Table} (st : State) {su : State} → Afresh t.variables (state_of t st) (state_of t su) → st.board.variables ≡ t.variables
    → AboveFloor t su st.board
above-settled {t} st a v = record {
  settled = state_of t st;
  afresh = a;
  variables = v;
  pairs = λ board w. record { idle = λ i h same. floor-pairs (afresh-on a w) i h same };
}

-- and so is one of empty sets
not_empty : (board : Sets) (i : ℕ) → any_empty board ≡ false → get_or board i full ≡ empty → ⊥
unfolding any_empty
not_empty [] i e f = absurd (omega (arith, f))
not_empty (s ∷ board) zero e f = never_both (eq-eqb s empty f) ((neither (eqb s empty) (any_empty board)).0 e).0
not_empty (s ∷ board) (suc i) e f = not_empty board i ((neither (eqb s empty) (any_empty board)).0 e).1 f

pub above-nowhere : {t : Table} {settled : Standing} {su : State} {b floor : Board} → Afresh t.variables settled (state_of t su) → Nowhere b floor
    → b.variables ≡ t.variables → t.variables ≤ 16 → AboveFloor t su floor
above-nowhere {t} {settled} {su} {b} {floor} a none v low = record {
  settled = settled;
  afresh = a;
  variables = none.variables ∙ v;
  pairs = λ board w. record {
    idle = λ i h same. absurd (not_empty board i (none-empty _ (no-empty (afresh-on a w))).0
        (same ∙ set_at floor.sets i (few floor.variables) (omega (arith, h, low, none.variables, v)) ∙ none.sets i (omega (arith, h, low))));
  };
}
