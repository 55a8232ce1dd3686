-- The narrowed start of a list: how it is begun, that rounds from it come to what the run of the list comes to, and that fresh rounds that are still
-- are over. `narrowed-start`, `narrowed-end` and `still-end` say so.
use mathlib.Core.Path.{◌≡◌, sym, ◌∙◌, ap, subst}
use mathlib.Core.Bool.{true, false}
use mathlib.Core.List.{List}
use Prim.Native.Nat.{ℕ}
use lib.IntN.{ℤ}
use Rattle.rules.specs.Signs.{SignSet}
use Rattle.rules.specs.Polynomial.{Atom, Board as Sets}
use Rattle.rules.specs.Rounds.{start, rounds, enough, run, settled}
use Rattle.rules.specs.Rounds.{State as Standing}
use Rattle.removal_laws.specs.Rounds.{LowBoard}
use Rattle.removal_laws.specs.Settled.{start-low}
use Rattle.ending_laws.specs.Rounds.{start-length}
use Rattle.turn_laws.specs.AfterTurns.{AfterTurns, after-low, end, same_end, Idle, Floor}
use Rattle.turn_laws.specs.Afresh.{Afresh, afresh-start, PairsIdle, floor-settled, run-by-turns}
use Rattle.terms.specs.View.{sets_of}
use Rattle.table.specs.declared.Atoms.{Atoms}
use Rattle.table.specs.Table.{Table, atoms_of, many}
use Rattle.round.specs.declared.State.{State}
use Rattle.round.specs.Views.{table_of, state_of}
use Rattle.ahead.specs.declared.Passed.{Passed}
use Rattle.ahead.specs.Ahead.{Ahead}
use Rattle.rounds.specs.declared.Counted.{Counted}
use Rattle.rounds.specs.declared.narrow.Beginning.{Beginning}
use Rattle.rounds.specs.Run.{polynomials_of, NarrowedStart, SettledStart, RunOf}
use Rattle.rounds.specs.Ended.{Ended}
use Rattle.rounds.specs.Afresh.{AfreshFrom, AboveFloor, above-settled}
use Rattle.rounds.specs.Turned.{Settling}
use Rattle.rounds.specs.Bounded.{BoundedBy, bounded-settled}
use Rattle.rounds.proofs.Standing.{above-over, bounded-over}
use Rattle.rounds.proofs.Polynomials.{same-polynomials}

-- ---- how it is begun

-- the board's own number of variables m is the table's n
module _ (cs : List ℤ) (ms ts : List ℕ) {n m : ℕ} (same : m ≡ n) (first : State) (l : List Atom)
    (is_start : state_of (table_of cs ms ts n) first ≡ start n l) where
  pub floor-begins : (floor : Sets) → Floor n (start n l).atoms (start n l).board floor
      → Floor m (atoms_of (table_of cs ms ts m) first.atoms) (sets_of first.board) floor
  floor-begins floor below =
      subst (λ (k : ℕ). Floor k (atoms_of (table_of cs ms ts k) first.atoms) (sets_of first.board) floor) (sym same)
      (subst (λ (st : Standing). Floor n st.atoms st.board floor) (sym is_start) below)

pub narrowed-start : (cs : List ℤ) (ms ts : List ℕ) {n m : ℕ} → m ≡ n → {first : State} (list : Atoms)
    → state_of (table_of cs ms ts n) first ≡ start n (atoms_of (table_of cs ms ts n) list) → {r : Passed} {ss : List SignSet}
    → Ahead (table_of cs ms ts m) first.atoms first.board r ss
    → NarrowedStart (table_of cs ms ts n) list (record { still = r.still; state = record { board = r.board; atoms = first.atoms }; order = r.order })
narrowed-start cs ms ts {n} same {first} list is_start {r} {ss} passed =
    let a = subst (λ (k : ℕ). Ahead (table_of cs ms ts k) first.atoms first.board r ss) same passed in
    record {
      variables = a.variables;
      atoms = ap (λ (st : Standing). st.atoms) is_start;
      after = subst (λ (st : Standing). AfterTurns n st.atoms st.board (sets_of r.board)) is_start a.after;
      idle = λ e i h. subst (λ (st : Standing). Idle n st.atoms (sets_of r.board) i) is_start (a.idle e i h);
    }

-- its sets are below 8
pub narrowed_low : {t : Table} {list : Atoms} {r : Beginning} → NarrowedStart t list r → LowBoard (sets_of r.state.board)
narrowed_low {t} {list} begin = after-low (start-low t.variables (atoms_of t list)) begin.after

pub started-low : (t : Table) (list : Atoms) (first : State) → state_of t first ≡ start t.variables (atoms_of t list) → LowBoard (sets_of first.board)
started-low t list first is_start = subst (λ (st : Standing). LowBoard st.board) (sym is_start) (start-low t.variables (atoms_of t list))

-- the start of fresh rounds is above the settled board
pub begins-above : (cs : List ℤ) (ms ts : List ℕ) {n m : ℕ} → m ≡ n → (state first : State) (others : Atoms)
    → AfreshFrom (table_of cs ms ts n) state (atoms_of (table_of cs ms ts n) others)
    → state_of (table_of cs ms ts n) first ≡ start n (atoms_of (table_of cs ms ts n) others) → AboveFloor (table_of cs ms ts m) first state.board
begins-above cs ms ts {n} same state first others from is_start =
    let t = table_of cs ms ts n in
    let begins = afresh-start n from.given from.settles from.some in
    above-over cs ms ts (sym same) (above-settled {t = t} state (subst (Afresh n (state_of t state)) (sym is_start) begins) from.variables)

pub begins-bounded : (cs : List ℤ) (ms ts : List ℕ) {n m : ℕ} → m ≡ n → (state first : State) (others : Atoms)
    → AfreshFrom (table_of cs ms ts n) state (atoms_of (table_of cs ms ts n) others)
    → state_of (table_of cs ms ts n) first ≡ start n (atoms_of (table_of cs ms ts n) others) → BoundedBy (table_of cs ms ts m) first state.board
begins-bounded cs ms ts {n} same state first others from is_start =
    let t = table_of cs ms ts n in
    let begins = afresh-start n from.given from.settles from.some in
    bounded-over cs ms ts (sym same) (bounded-settled {t = t} state (subst (Afresh n (state_of t state)) (sym is_start) begins) from.variables (started-low t others first is_start))

-- narrowed by turns and by pairs
pub settled-start : (cs : List ℤ) (ms ts : List ℕ) {n m : ℕ} → m ≡ n → {first : State} (list : Atoms)
    → state_of (table_of cs ms ts n) first ≡ start n (atoms_of (table_of cs ms ts n) list) → {r : Passed}
    → Settling (table_of cs ms ts m) first.atoms first.board r
    → SettledStart (table_of cs ms ts n) list (record { still = r.still; state = record { board = r.board; atoms = first.atoms }; order = r.order })
settled-start cs ms ts {n} same {first} list is_start {r} passed =
    let a = subst (λ (k : ℕ). Settling (table_of cs ms ts k) first.atoms first.board r) same passed in
    record {
      narrowed = record {
        variables = a.variables;
        atoms = ap (λ (st : Standing). st.atoms) is_start;
        after = subst (λ (st : Standing). AfterTurns n st.atoms st.board (sets_of r.board)) is_start a.after;
        idle = λ e i h. subst (λ (st : Standing). Idle n st.atoms (sets_of r.board) i) is_start (a.idle e i h);
      };
      pairs_idle = λ e i h. subst (λ (st : Standing). PairsIdle n (record { board = sets_of r.board; atoms = st.atoms }) i) is_start (a.pairs_idle e i h);
    }

-- the settled sets are a floor of fresh rounds
pub settled-below : {t : Table} {state : State} {others : List Atom} → AfreshFrom t state others
    → Floor t.variables (start t.variables others).atoms (start t.variables others).board (sets_of state.board)
settled-below {t} from = floor-settled (afresh-start t.variables from.given from.settles from.some)

-- ---- what comes of it

pub narrowed-end : {t : Table} {list : Atoms} {r : Beginning} → NarrowedStart t list r
    → rounds t.variables (enough (state_of t r.state)) (state_of t r.state) ≡ run t.variables (atoms_of t list)
unfolding run
narrowed-end {t} {list} {r} begin =
    let n = t.variables in
    let l = atoms_of t list in
    ap (λ (atoms : List Atom). end n (record { board = sets_of r.state.board; atoms = atoms })) begin.atoms
    ∙ same_end (start-low n l) (start-length n l) begin.after

pub still-end : {t : Table} {state : State} {others : Atoms} {r : Beginning} → AfreshFrom t state (atoms_of t others) → SettledStart t others r
    → r.still ≡ true → settled (state_of t r.state) ≡ run t.variables (atoms_of t others)
still-end {t} {state} {others} {r} from start_of_lem e =
    let begin = start_of_lem.narrowed in
    ap (λ (atoms : List Atom). settled (record { board = sets_of r.state.board; atoms = atoms })) begin.atoms
    ∙ sym (run-by-turns t.variables from.given from.settles (atoms_of t others) from.some begin.after (begin.idle e) (start_of_lem.pairs_idle e))

-- so rounds from it are the run
pub run-narrowed : {t : Table} {list : Atoms} {b : Beginning} {r : Counted} → NarrowedStart t list b → Ended t b.state r
    → RunOf t list (record { contradiction = r.contradiction; state = r.state })
unfolding start
run-narrowed {t} {list} {b} {r} begin ended =
    let first = b.state.atoms in
    record {
      outcome = ended.outcome ∙ narrowed-end begin;
      variables = ended.variables;
      atoms = record {
        polynomials =
            rw (ended.count, ended.number) (same-polynomials t first.number first.set r.state.atoms.set 0 (many first.count))
            ∙ ap polynomials_of begin.atoms;
      };
    }

-- and fresh rounds need none
pub run-still : {t : Table} {state : State} {others : Atoms} {b : Beginning} → AfreshFrom t state (atoms_of t others) → SettledStart t others b
    → b.still ≡ true → RunOf t others (record { contradiction = false; state = b.state })
unfolding start
run-still from begin e = record {
  outcome = still-end from begin e;
  variables = begin.narrowed.variables;
  atoms = record { polynomials = ap polynomials_of begin.narrowed.atoms };
}
