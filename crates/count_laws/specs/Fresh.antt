-- Request #108: how many rounds a fresh run of step 5 takes at most. It cuts no atom and stays above the settled board, and each of its rounds but the
-- last takes a sign from a variable, or the pair finding after it does: one more than the signs that its start has above the settled board.
use Rattle.std.specs.Prelude.{◌≡◌, refl, true, false, List, [], ◌∷◌, ℕ, zero, suc, ◌+◌, ◌≤◌, ◌<◌, get_or}
use Rattle.std.proofs.Common.{sym, ap, ◌∙◌, subst, arith, le_refl, lit<}
use Rattle.rules.specs.Signs.{SignSet, full}
use Rattle.rules.specs.Polynomial.{Atom, Board}
use Rattle.rules.specs.Rounds.{State, round, sets_of, has_empty, Outcome, settled, start, run, carried}
use Rattle.rules.specs.Count.{run_count}
use Rattle.sign_laws.specs.Booleans.{never_both}
use Rattle.sign_laws.specs.Lists.{Every, every_none, every, every-get_d}
use Rattle.ending_laws.specs.Sizes.{spare, spare-part}
use Rattle.ending_laws.specs.Cuts.{spare_all, spare_of, round-spare, round-falls}
use Rattle.ending_laws.specs.Cuts.{Low as AllLow}
use Rattle.ending_laws.specs.Searches.{searched}
use Rattle.ending_laws.specs.Rounds.{Run, finds_contradiction, changes_nothing, pair_contradicts, pair_goes_on, goes_on, run_ends}
use Rattle.ending_laws.specs.Counts.{run-counted}
use Rattle.removal_laws.specs.Wider.{Wider, no_sets, sets}
use Rattle.removal_laws.specs.Rounds.{LowBoard, LowAtoms, round-low}
use Rattle.removal_laws.specs.Settled.{run-settles, search-low, start-low}
use Rattle.turn_laws.specs.Some.{Some, none_there, not_there, there, all_there}
use Rattle.turn_laws.specs.Equal.{Narrows, run-narrow}
use Rattle.turn_laws.specs.Afresh.{Afresh, afresh-start, no-empty, no-atom-cut, afresh-round, no-atom-found, afresh-found}

-- A wider board has no fewer signs to lose.
pub wider-spare : {board wide : Board} → Wider board wide → spare_all board ≤ spare_all wide
unfolding spare_all
wider-spare no_sets = le_refl 0
wider-spare (sets p w) = omega (arith, spare-part p, wider-spare w)

-- Sets below 8, place by place.
atoms-low : {l : List Atom} → LowAtoms l → (i : ℕ) → get_or (sets_of l) i full < 8
unfolding sets_of
atoms-low every_none i = lit< tt
atoms-low (every h hs) zero = h
atoms-low (every h hs) (suc i) = atoms-low hs i

pub some-every : {P : Atom → Type 0} {l m : List Atom} → Some l m → Every P l → Every P m
some-every none_there every_none = every_none
some-every (not_there f) (every h hs) = some-every f hs
some-every (there f) (every h hs) = every h (some-every f hs)

pub some-low : {l m : List Atom} → Some l m → LowAtoms l → LowAtoms m
some-low f h = some-every f h

pub all-low : {n : ℕ} {st su : State} → Afresh n st su → LowBoard su.board → AllLow n su
all-low t low = record { board = λ i h. every-get_d i full (lit< tt) low; atoms = atoms-low (some-low t.lists t.still.low.atoms) }

-- Where the atoms of a list have their settled sets from the start, its own run is such a one.
pub settled-start : (n : ℕ) (l : List Atom) {st : State} → run n l ≡ settled st → (start n l).atoms ≡ st.atoms → Afresh n st (start n l)
settled-start n l {st} e same = record {
  still = run-settles n l e;
  boards = (subst (λ (o : Outcome). Narrows (start n l) o) e (run-narrow (run_ends n l))).boards;
  lists = rw same (all_there st.atoms);
}

-- A run of such rounds.
spends : {n : ℕ} {st su : State} {k : ℕ} {o : Outcome} → Afresh n st su → LowBoard su.board → Run n su k o
    → k + spare_all st.board ≤ spare_all su.board + 1
unfolding spare_of
spends t low (finds_contradiction e) = never_both e (no-empty (afresh-round t))
spends t low (changes_nothing e u i) = omega (arith, wider-spare t.boards)
spends t low (pair_contradicts e u i b) = never_both b (no-empty (afresh-found (afresh-round t) i))
spends {n} {su} t low (pair_goes_on {sv = sv} e u i b r) =
    let same : spare_all (sets_of (round n su).atoms) ≡ spare_all (sets_of su.atoms) = ap (λ (l : List Atom). spare_all (sets_of l)) (no-atom-cut t) in
    let again : spare_all (sets_of sv.atoms) ≡ spare_all (sets_of (round n su).atoms) = ap (λ (l : List Atom). spare_all (sets_of l)) (no-atom-found (afresh-round t) i) in
    let kept = round-low n su low in
    omega (
      arith,
      spends (afresh-found (afresh-round t) i) (search-low n (round n su) i kept).board r,
      (searched n (round n su) i).falls (all-low (afresh-round t) kept.board) b,
      round-spare n su (all-low t low),
      same,
      again,
    )
spends {n} {su} t low (goes_on e u r) =
    let same : spare_all (sets_of (round n su).atoms) ≡ spare_all (sets_of su.atoms) = ap (λ (l : List Atom). spare_all (sets_of l)) (no-atom-cut t) in
    omega (arith, spends (afresh-round t) (round-low n su low).board r, round-falls n su (all-low t low) e u, same)

-- So many rounds the run over some of the atoms that carry the sets of a settled state takes at most.
pub fresh-at-most : (n : ℕ) (l : List Atom) {st : State} → run n l ≡ settled st → (others : List Atom)
    → Some (carried n st.board l st.atoms) others → run_count n others + spare_all st.board ≤ spare_all (start n others).board + 1
fresh-at-most n l e others f = spends (afresh-start n l e f) (start-low n others) (run-counted n others)
