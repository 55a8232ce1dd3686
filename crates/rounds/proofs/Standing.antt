-- Rounds on the board alone: so many have ended at the board at hand, and those and the rest are all that are begun from the first board.
use mathlib.Core.Path.{◌≡◌, refl, sym, ◌∙◌, ap, subst}
use mathlib.Core.Bool.{Bool, true, false}
use mathlib.Core.List.{List}
use mathlib.Core.Option.{Option, none, some, some-injective, none-ne-some}
use Prim.Native.Nat.{ℕ, zero, suc, ◌+◌, ◌-◌, ◌<◌, max}
use native.Mathlib.Nat.{sub-zero}
use native.Mathlib.Omega.{arith}
use lib.IntN.{ℤ}
use Rattle.rules.specs.Signs.{SignSet}
use Rattle.rules.specs.Polynomial.{Atom, Board}
use Rattle.rules.specs.Rounds.{turns, round, same_sets, search_board, state_or}
use Rattle.rules.specs.Rounds.{State as Settling}
use Rattle.ending_laws.specs.Cuts.{spare_all}
use Rattle.removal_laws.specs.Wider.{Wider}
use Rattle.turn_laws.specs.Afresh.{Afresh, afresh-round, by-variables, afresh-found}
use Rattle.count_laws.specs.AtMost.{no_larger}
use Rattle.count_laws.specs.Boards.{unless_still, turned_rounds}
use Rattle.count_laws.specs.Bound.{turned-low, found-low, onward-at-most}
use Rattle.terms.specs.declared.Board.{Board as Sets}
use Rattle.terms.specs.View.{few, numbers_from, sets_of}
use Rattle.table.specs.declared.Atoms.{Atoms}
use Rattle.table.specs.Table.{Table, atoms_of}
use Rattle.round.specs.declared.State.{State}
use Rattle.round.specs.Views.{table_of}
use Rattle.round.specs.Signing.{Ready}
use Rattle.round.specs.Round.{Turned}
use Rattle.search.specs.declared.variables.OfBoard.{OfBoard}
use Rattle.search.specs.Search.{when_found, SearchedBoard}
use Rattle.rounds.specs.Ended.{further_from}
use Rattle.rounds.specs.Afresh.{AboveFloor}
use Rattle.rounds.specs.Bounded.{BoundedBy, bounded-on}
use Rattle.rounds.specs.Turned.{further_board, TurnedOn}

-- a board's own number of variables is the table's
pub turns-over : (cs : List ℤ) (ms ts : List ℕ) {n m : ℕ} → n ≡ m → {a : Atoms} (board : Board) {b : Sets} {ss : List SignSet}
    → Turned (table_of cs ms ts n) a (turns n (atoms_of (table_of cs ms ts n) a) board 0 n) b ss
    → Turned (table_of cs ms ts m) a (turns m (atoms_of (table_of cs ms ts m) a) board 0 m) b ss
turns-over cs ms ts same {a} board {b} {ss} =
    subst (λ (k : ℕ). Turned (table_of cs ms ts k) a (turns k (atoms_of (table_of cs ms ts k) a) board 0 k) b ss) same

-- the sets of two boards, compared by place
pub same-is : (b c : Sets) {k : ℕ} {r : Bool} → c.variables ≡ b.variables → k ≡ few b.variables
    → r ≡ same_sets (numbers_from b.sets 0 k) (numbers_from c.sets 0 k) → r ≡ same_sets (sets_of b) (sets_of c)
same-is b c v e h = rw v (rw e at h)

-- ---- a round of turns, and what a pair finds after it

pub searched-over : (cs : List ℤ) (ms ts : List ℕ) {n m : ℕ} → n ≡ m → {b : Sets} {a : Atoms} {r : OfBoard} → SearchedBoard (table_of cs ms ts n) b a r
    → SearchedBoard (table_of cs ms ts m) b a r
searched-over cs ms ts same {b} {a} {r} = subst (λ (k : ℕ). SearchedBoard (table_of cs ms ts k) b a r) same

-- a board above the settled one stays above it
finds-above : {n : ℕ} {st su : Settling} → Afresh n st su → {found : Board} → search_board n su.atoms su.board 0 n su.board ≡ some found
    → Wider st.board found
unfolding state_or
finds-above {su = su} above e = (afresh-found above (by-variables above ∙ ap (λ (o : Option Board). state_or su o none) e)).boards

pub searched-bounded : {t : Table} {a : Atoms} {b floor : Sets} {r : OfBoard} → BoundedBy t (record { board = b; atoms = a }) floor → SearchedBoard t b a r
    → BoundedBy t (record { board = r.board; atoms = a }) floor
unfolding when_found
searched-bounded {t} {a} {b} {floor} {r} bounded s = by r.found refl
  where
    by : (f : Bool) → r.found ≡ f → BoundedBy t (record { board = r.board; atoms = a }) floor
    by false e = subst (λ (x : Sets). BoundedBy t (record { board = x; atoms = a }) floor) (sym (s.itself e)) bounded
    by true e =
        let finds = sym s.found ∙ ap (λ (f : Bool). when_found f (sets_of r.board)) e in
        bounded-on bounded (finds-above bounded.above.afresh finds) (found-low bounded.above.afresh bounded.low finds)

module _ {t : Table} {a : Atoms} {b floor next : Sets} {ss : List SignSet} (bounded : BoundedBy t (record { board = b; atoms = a }) floor)
    (turned : Turned t a (turns t.variables (atoms_of t a) (sets_of b) 0 t.variables) next ss) where
  pub turned-bounded : BoundedBy t (record { board = next; atoms = a }) floor
  unfolding round
  turned-bounded =
      bounded-on bounded (rw turned.sets (afresh-round bounded.above.afresh).boards) (rw turned.sets (turned-low bounded.above.afresh bounded.low))

  -- the round changed a set
  pub turned-changed : same_sets (sets_of b) (sets_of next) ≡ false → TurnedOn t a b floor (record { found = true; board = next }) ss
  unfolding further_board further_from when_found
  turned-changed e = record { found = rw (← turned.sets, e); variables = turned.variables; ready = turned.ready; bounded = turned-bounded }

  -- it did not
  pub turned-searched : {r : OfBoard} {zs : List SignSet} → same_sets (sets_of b) (sets_of next) ≡ true → SearchedBoard t next a r → Ready t (sets_of r.board) a zs
      → TurnedOn t a b floor r zs
  unfolding further_board further_from
  turned-searched e s ready = record {
    found = s.found ∙ rw (← turned.sets, e);
    variables = s.variables ∙ turned.variables;
    ready = ready;
    bounded = searched-bounded turned-bounded s;
  }

-- ---- so many have ended

pub above-over : (cs : List ℤ) (ms ts : List ℕ) {n m : ℕ} → n ≡ m → {su : State} {floor : Sets} → AboveFloor (table_of cs ms ts n) su floor
    → AboveFloor (table_of cs ms ts m) su floor
above-over cs ms ts same {su} {floor} = subst (λ (k : ℕ). AboveFloor (table_of cs ms ts k) su floor) same

pub bounded-over : (cs : List ℤ) (ms ts : List ℕ) {n m : ℕ} → n ≡ m → {su : State} {floor : Sets} → BoundedBy (table_of cs ms ts n) su floor
    → BoundedBy (table_of cs ms ts m) su floor
bounded-over cs ms ts same {su} {floor} = subst (λ (k : ℕ). BoundedBy (table_of cs ms ts k) su floor) same

pub turned-on-over : (cs : List ℤ) (ms ts : List ℕ) {n m : ℕ} → n ≡ m → {a : Atoms} {b floor : Sets} {r : OfBoard} {ss : List SignSet}
    → TurnedOn (table_of cs ms ts n) a b floor r ss → TurnedOn (table_of cs ms ts m) a b floor r ss
turned-on-over cs ms ts same {a} {b} {floor} {r} {ss} = subst (λ (k : ℕ). TurnedOn (table_of cs ms ts k) a b floor r ss) same

pub record Standing (t : Table) (a : Atoms) (total ended : ℕ) (first board floor : Sets) (ss : List SignSet) : Type 0 where
  pub variables : board.variables ≡ t.variables
  pub ready : Ready t (sets_of board) a ss
  pub bounded : BoundedBy t (record { board = board; atoms = a }) floor
  pub counts : ended + turned_rounds t.variables (atoms_of t a) (total - ended) (sets_of board) ≡ turned_rounds t.variables (atoms_of t a) total (sets_of first)

pub stand-first : {t : Table} {a : Atoms} (total : ℕ) {board floor : Sets} {ss : List SignSet} → board.variables ≡ t.variables → Ready t (sets_of board) a ss
    → BoundedBy t (record { board = board; atoms = a }) floor → Standing t a total 0 board board floor ss
stand-first total v r f = record { variables = v; ready = r; bounded = f; counts = rw sub-zero (omega arith) }

-- what a round of turns counts: no more, if no further one is begun, or what the board counts that it begins with
no_further : (still : Bool) (found : Option Board) (next : Board) (more : Board → ℕ) → further_from still found next ≡ none → unless_still still found next more ≡ 0
unfolding further_from unless_still
no_further true found next more e = rw e
no_further false found next more e = absurd (none-ne-some next (sym e))

one_further : (still : Bool) (found : Option Board) (next : Board) (more : Board → ℕ) {board : Board} → further_from still found next ≡ some board
    → unless_still still found next more ≡ more board
unfolding further_from unless_still
one_further true found next more e = rw e
one_further false found next more {board} e = ap more (some-injective next board e)

module _ (n : ℕ) (atoms : List Atom) (board : Board) where
  last-round : (left : ℕ) → 0 < left → further_board n atoms board ≡ none → turned_rounds n atoms left board ≡ 1
  unfolding turned_rounds further_board
  last-round zero h e = absurd (omega arith)
  last-round (suc k) h e = ap suc (no_further _ _ _ _ e)

  one-round : (left : ℕ) → 0 < left → {found : Board} → further_board n atoms board ≡ some found
      → turned_rounds n atoms left board ≡ suc (turned_rounds n atoms (left - 1) found)
  unfolding turned_rounds further_board
  one-round zero h e = absurd (omega arith)
  one-round (suc k) h e = let less : suc k - 1 ≡ k = omega arith in rw less (ap suc (one_further _ _ _ _ e))

-- where the bound of a run that has begun so many rounds before is no more than the largest number, neither is its count
pub left-by-bound : {t : Table} {a : Atoms} {board floor : Sets} → BoundedBy t (record { board = board; atoms = a }) floor → (before : ℕ) {largest : ℕ}
    → before + spare_all (sets_of board) < largest + spare_all (sets_of floor)
    → (k : ℕ) → largest ≡ max largest (before + turned_rounds t.variables (atoms_of t a) k (sets_of board))
left-by-bound bounded before h k =
    let most = onward-at-most bounded.above.afresh bounded.low k in
    sym (no_larger (omega (arith, most, h, bounded.lowest)))

module _ {t : Table} {a : Atoms} {total ended : ℕ} {first board floor : Sets} {ss zs : List SignSet} {r : OfBoard}
    (s : Standing t a total ended first board floor ss) (more : ended < total) (on : TurnedOn t a board floor r zs) where
  some_left : 0 < total - ended
  some_left = omega arith

  pub stand-rest : r.found ≡ false → ended + 1 ≡ turned_rounds t.variables (atoms_of t a) total (sets_of first)
  unfolding when_found
  stand-rest e =
      let last = last-round t.variables (atoms_of t a) (sets_of board) (total - ended) some_left (sym on.found ∙ rw e) in
      omega (arith, last, s.counts)

  pub stand-on : r.found ≡ true → Standing t a total (ended + 1) first r.board floor zs
  unfolding when_found
  stand-on e =
      let less : total - ended - 1 ≡ total - (ended + 1) = omega arith in
      let one = rw less at (one-round t.variables (atoms_of t a) (sets_of board) (total - ended) some_left {found = sets_of r.board} (sym on.found ∙ rw e)) in
      record {
        variables = on.variables;
        ready = on.ready;
        bounded = on.bounded;
        counts = omega (arith, one, s.counts);
      }

module _ {t : Table} {a : Atoms} {total ended : ℕ} {first board floor : Sets} {ss : List SignSet} (s : Standing t a total ended first board floor ss) where
  pub stand-last : ended ≡ total → total ≡ turned_rounds t.variables (atoms_of t a) total (sets_of first)
  unfolding turned_rounds
  stand-last e =
      let none : total - ended ≡ 0 = omega arith in
      let none_left : turned_rounds t.variables (atoms_of t a) (total - ended) (sets_of board) ≡ 0 = rw none in
      omega (arith, none_left, s.counts, e)

  pub stand-left : (before : ℕ) {largest : ℕ} → before + ended + spare_all (sets_of board) < largest + spare_all (sets_of floor)
      → largest ≡ max largest (before + turned_rounds t.variables (atoms_of t a) total (sets_of first))
  stand-left before {largest} h =
      let all : before + ended + turned_rounds t.variables (atoms_of t a) (total - ended) (sets_of board) ≡ before + turned_rounds t.variables (atoms_of t a) total (sets_of first) =
      omega (arith, s.counts) in
      left-by-bound s.bounded (before + ended) h (total - ended) ∙ ap (max largest) all
