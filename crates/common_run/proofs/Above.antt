-- Rounds from a state above a settled one stay above it, and no turn goes below its floor.
use mathlib.Core.Path.{◌≡◌, sym, subst}
use mathlib.Core.Bool.{Bool, false}
use mathlib.Core.List.{List}
use mathlib.Core.Option.{Option, none}
use Prim.Native.Nat.{ℕ, zero, suc, ◌+◌, ◌≤◌}
use native.Mathlib.Omega.{arith}
use lib.IntN.{ℤ}
use Rattle.rules.specs.Polynomial.{Atom, Board}
use Rattle.rules.specs.Rounds.{turns, round, start, turn}
use Rattle.rules.specs.Rounds.{State as Standing}
use Rattle.removal_laws.specs.Wider.{Wider}
use Rattle.turn_laws.specs.AfterTurns.{AfterTurns, no_turn, one-more, Floor}
use Rattle.turn_laws.specs.Afresh.{Afresh, afresh-start, afresh-round, floor-settled}
use Rattle.count_laws.specs.Onward.{after_rounds, NoPair}
use Rattle.terms.specs.declared.Board.{Board as Sets}
use Rattle.terms.specs.View.{sets_of}
use Rattle.table.specs.declared.Atoms.{Atoms}
use Rattle.table.specs.Table.{Table, atoms_of}
use Rattle.round.specs.declared.State.{State}
use Rattle.round.specs.Views.{table_of, state_of}
use Rattle.search.specs.Search.{when_found}
use Rattle.rounds.specs.Afresh.{AfreshFrom, AboveFloor, above_on, above-settled}
use Rattle.rounds.specs.Bounded.{BoundedBy}
use Rattle.common_run.specs.Turning.{Floored}
use Rattle.common_run.specs.Run.{after}
use Rattle.common_run.proofs.Turnings.{floored-later}

pub rounds-afresh : {n : ℕ} {settled su : Standing} → Afresh n settled su → (j : ℕ)
    → Afresh n settled (record { board = after_rounds n su.atoms j su.board; atoms = su.atoms })
unfolding after_rounds round
rounds-afresh t zero = t
rounds-afresh t (suc j) = record { still = t.still; boards = (afresh-round (rounds-afresh t j)).boards; lists = t.lists }

-- the start of a run afresh is above the state that its atoms carry their sets from
pub above-start : {t : Table} {settled : State} {remaining : List Atom} → AfreshFrom t settled remaining → (begun : State)
    → state_of t begun ≡ start t.variables remaining → AboveFloor t begun settled.board
above-start {t} {settled} a begun e =
    above-settled settled (subst (λ (su : Standing). Afresh t.variables (state_of t settled) su) (sym e)
    (afresh-start t.variables a.given a.settles a.some)) a.variables

-- the state with the board after so many rounds
pub above-after : {t : Table} {st : State} {floor : Sets} → AboveFloor t st floor → (j : ℕ) (b : Sets) → sets_of b ≡ after t st j
    → AboveFloor t (record { board = b; atoms = st.atoms }) floor
above-after f j b e = above_on f (subst (Wider f.settled.board) (sym e) (rounds-afresh f.afresh j).boards)

-- ---- the floor of turns

turns-after : {n : ℕ} {atoms : List Atom} {first board : Board} → AfterTurns n atoms first board → (i k : ℕ) → i + k ≤ n
    → AfterTurns n atoms first (turns n atoms board i k)
unfolding turns
turns-after t i zero h = t
turns-after {n} {atoms} {first} {board} t i (suc k) h =
    turns-after {board = turn n atoms board i} (one-more i (omega arith) t) (suc i) k (omega arith)

rounds-after : (n : ℕ) (atoms : List Atom) (first : Board) (j : ℕ) → AfterTurns n atoms first (after_rounds n atoms j first)
unfolding after_rounds
rounds-after n atoms first zero = no_turn
rounds-after n atoms first (suc j) = turns-after (rounds-after n atoms first j) 0 n (omega arith)

-- it is below the start of a run afresh
pub floored-start : {t : Table} {settled : State} {remaining : List Atom} → AfreshFrom t settled remaining → (begun : State)
    → state_of t begun ≡ start t.variables remaining → Floored t begun.atoms begun.board settled.board
floored-start {t} {settled} a begun e = record {
  variables = a.variables;
  below = subst (λ (su : Standing). Floor t.variables su.atoms su.board (sets_of settled.board)) (sym e)
      (floor-settled (afresh-start t.variables a.given a.settles a.some));
}

-- and below each of its boards
pub floored-after : {t : Table} {st : State} {floor : Sets} → Floored t st.atoms st.board floor → (j : ℕ) (b : Sets) → sets_of b ≡ after t st j
    → Floored t st.atoms b floor
floored-after {t} {st} f j b e =
    let n = t.variables in
    let all = atoms_of t st.atoms in
    let first = sets_of st.board in
    floored-later f (subst (AfterTurns n all first) (sym e) (rounds-after n all first j))

-- a board's own number of variables is the table's
module _ (cs : List ℤ) (ms ts : List ℕ) {n m : ℕ} (same : n ≡ m) where
  pub above-over : {st : State} {floor : Sets} → AboveFloor (table_of cs ms ts n) st floor → AboveFloor (table_of cs ms ts m) st floor
  above-over {st} {floor} = subst (λ (k : ℕ). AboveFloor (table_of cs ms ts k) st floor) same

  pub bounded-over : {st : State} {floor : Sets} → BoundedBy (table_of cs ms ts n) st floor → BoundedBy (table_of cs ms ts m) st floor
  bounded-over {st} {floor} = subst (λ (k : ℕ). BoundedBy (table_of cs ms ts k) st floor) same

  pub no-pair-over : (a : Atoms) (board : Board) → NoPair n (atoms_of (table_of cs ms ts n) a) board → NoPair m (atoms_of (table_of cs ms ts m) a) board
  no-pair-over a board = subst (λ (k : ℕ). NoPair k (atoms_of (table_of cs ms ts k) a) board) same

-- what a search that found nothing is
pub nothing-found : {A : Type 0} (found : Bool) (a : A) {o : Option A} → when_found found a ≡ o → found ≡ false → o ≡ none
unfolding when_found
nothing-found found a {o} e z = sym (subst (λ (b : Bool). when_found b a ≡ o) z e)
