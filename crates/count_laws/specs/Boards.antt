-- Request #108: rounds that cut no atom are counted on the board alone. So are the fresh runs of step 5, and the rounds of step 3 from where its atoms
-- have the sets that they settle in: no atom is looked at in them.
use Rattle.std.specs.Prelude.{◌≡◌, refl, Bool, true, false, ◌&&◌, List, ℕ, zero, suc}
use Rattle.std.proofs.Common.{sym, ap, ap₂, ◌∙◌}
use Rattle.std.proofs.Math.Option.{Option, none, some}
use Rattle.rules.specs.Polynomial.{Atom, Board}
use Rattle.rules.specs.Rounds.{State, turns, round, sets_of, same_sets, has_empty, unchanged, settled, search_board, state_or, search, start, enough, run, carried}
use Rattle.rules.specs.Rounds.{begun_unless_emptied, begun_after_search, further_begun, begun}
use Rattle.rules.specs.Count.{run_count}
use Rattle.sign_laws.specs.Booleans.{and_second}
use Rattle.ending_laws.specs.FirstRound.{same-unchanged}
use Rattle.turn_laws.specs.Some.{Some}
use Rattle.turn_laws.specs.Afresh.{Afresh, afresh-start, no-empty, no-atom-cut, afresh-round, by-variables, no-atom-found, afresh-found}

-- The number of rounds begun where only the variables have their turns: until one leaves the board as it was, and no pair finds anything of a variable.
unfoldable pub unless_still : Bool → Option Board → Board → (Board → ℕ) → ℕ
unless_still true none board more = 0
unless_still true (some found) board more = more found
unless_still false found board more = more board

unfoldable pub turned_rounds : ℕ → List Atom → ℕ → Board → ℕ
turned_rounds n atoms zero board = 0
turned_rounds n atoms (suc k) board =
    let next = turns n atoms board 0 n in
    suc (unless_still (same_sets board next) (search_board n atoms next 0 n next) next (λ (b : Board). turned_rounds n atoms k b))

-- A test that holds beside another.
and-true : (b c : Bool) → c ≡ true → b && c ≡ b
and-true true c e = e
and-true false c e = refl

-- Sets that are the same are.
same-again : (st : State) → same_sets (sets_of st.atoms) (sets_of st.atoms) ≡ true
unfolding unchanged
same-again st = and_second (same_sets st.board st.board) (same_sets (sets_of st.atoms) (sets_of st.atoms)) (same-unchanged st st refl)

-- A round that cuts no atom changes nothing exactly if it leaves the board as it was.
pub still-by-board : {n : ℕ} {st su : State} → Afresh n st su → unchanged su (round n su) ≡ same_sets su.board (round n su).board
unfolding unchanged
still-by-board {su} t = rw (no-atom-cut t) (and-true _ _ (same-again su))

-- What comes after a round that left such a state: a search finds no more than one over the variables.
after-round : {n : ℕ} {st next : State} → Afresh n st next → (k : ℕ)
    → ((sv : State) → Afresh n st sv → begun n k sv ≡ turned_rounds n sv.atoms k sv.board)
    → (still : Bool) (found : Option Board) → search_board n next.atoms next.board 0 n next.board ≡ found
    → further_begun false still n next (λ (sv : State). begun n k sv) ≡ unless_still still found next.board (λ (b : Board). turned_rounds n next.atoms k b)
unfolding further_begun begun_after_search begun_unless_emptied unless_still state_or
after-round {next} t k counted false found e = counted next t
after-round {n} {next = next} t k counted true none e =
    let idle : search n next ≡ none = by-variables t ∙ ap (λ (o : Option Board). state_or next o none) e in
    rw idle
after-round {n} {next = next} t k counted true (some b) e =
    let sv : State = record { board = b; atoms = next.atoms } in
    let finds : search n next ≡ some sv = by-variables t ∙ ap (λ (o : Option Board). state_or next o none) e in
    let again = afresh-found t finds in
    rw (finds, no-empty again) (counted sv again)

-- From a state above a settled one, with some of its atoms as they are there, the rounds are those.
pub counted-by-turns : {n : ℕ} {st su : State} → Afresh n st su → (k : ℕ) → begun n k su ≡ turned_rounds n su.atoms k su.board
unfolding begun turned_rounds round
counted-by-turns t zero = refl
counted-by-turns {n} {st} {su} t (suc k) =
    let board = (round n su).board in
    let still : unchanged su (round n su) ≡ same_sets su.board board = still-by-board t in
    let further = after-round (afresh-round t) k (λ sv u. counted-by-turns u k) (same_sets su.board board) _ refl in
    let same = ap (λ (l : List Atom). unless_still (same_sets su.board board) (search_board n l board 0 n board) board (λ (b : Board). turned_rounds n l k b))
    (no-atom-cut t) in
    rw (no-empty (afresh-round t), still) (ap suc (further ∙ same))

-- The run over some of the atoms that carry the sets of a settled state.
pub fresh-by-turns : (n : ℕ) (l : List Atom) {st : State} → run n l ≡ settled st → (others : List Atom)
    → Some (carried n st.board l st.atoms) others
    → let su = start n others in run_count n others ≡ turned_rounds n su.atoms (enough su) su.board
unfolding run_count
fresh-by-turns n l e others f = counted-by-turns (afresh-start n l e f) (enough (start n others))
