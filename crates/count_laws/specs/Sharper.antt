-- Request #108: a sharper bound for a fresh run of step 5. A sign that its atoms, alone or two at once, do not take from a variable even on the settled
-- board is never taken from it in the run, and so it is not among the signs that its rounds can take.
use Rattle.std.specs.Prelude.{◌≡◌, refl, true, false, List, [], ◌∷◌, ℕ, zero, suc, ◌+◌, ◌≤◌, ◌<◌, length, get_or, set}
use Rattle.std.proofs.Common.{sym, ap, ◌∙◌, subst, arith}
use Rattle.std.proofs.Math.Option.{some, none-ne-some}
use Rattle.rules.specs.Signs.{Sign, SignSet, full, intersect}
use Rattle.rules.specs.Polynomial.{Polynomial, Atom, Board, variable}
use Rattle.rules.specs.Deduce.{deduce}
use Rattle.rules.specs.TwoAtoms.{tries, cut_by_all}
use Rattle.rules.specs.Rounds.{cut_by, turn, turns, State, round, sets_of, search, Outcome, settled, start, run, carried}
use Rattle.rules.specs.Count.{run_count}
use Rattle.sign_laws.specs.Booleans.{never_both}
use Rattle.sign_laws.specs.Lists.{Every, every_none, every}
use Rattle.sign_laws.specs.Sets.{◌In◌, in-intersect, in_left, in_right, PartOf, part-trans}
use Rattle.ending_laws.specs.Cuts.{spare_all, spare_of, round-spare, round-falls}
use Rattle.ending_laws.specs.Searches.{first-keeps, BoardFound, found_here, found_later, board-found, search-finds, searched}
use Rattle.ending_laws.specs.Rounds.{Run, finds_contradiction, changes_nothing, pair_contradicts, pair_goes_on, goes_on, start-length}
use Rattle.ending_laws.specs.Counts.{run-counted}
use Rattle.removal_laws.specs.Wider.{Wider, no_sets, sets}
use Rattle.removal_laws.specs.Fewer.{get_d_wider, set-wide, all-kept}
use Rattle.removal_laws.specs.Rounds.{LowBoard, LowAtoms, WiderState, round-low, cut_by-wider}
use Rattle.removal_laws.specs.TwoAtoms.{tries-wider, weaker-every}
use Rattle.removal_laws.specs.Settled.{search-low, start-low}
use Rattle.removal_laws.specs.Searched.{settled-filled}
use Rattle.turn_laws.specs.Some.{Some}
use Rattle.turn_laws.specs.AfterTurns.{AfterTurns, no_turn, one-more, cut-wider}
use Rattle.turn_laws.specs.Afresh.{Afresh, afresh-start, afresh-after, no-empty, no-atom-cut, afresh-round, atoms-idle, no-atom-found, afresh-found}
use Rattle.count_laws.specs.Fresh.{wider-spare, all-low, some-every, some-low}

-- ---- What is left of a cut set is not cut again.

left_in : (board : Board) (p : Polynomial) (x : Sign) (qs : List Atom) (s : SignSet) → x In cut_by board p qs s
    → Every (λ (q : Atom). x In deduce board p q) qs × (x In s)
unfolding cut_by
left_in board p x [] s h = (every_none, h)
left_in board p x (q ∷ qs) s h =
    let rest = left_in board p x qs (intersect s (deduce board p q)) h in
    (every (in_right s (deduce board p q) rest.1) rest.0, in_left s (deduce board p q) rest.1)

stays-in : (board : Board) (p : Polynomial) (x : Sign) {qs : List Atom} (s : SignSet) → Every (λ (q : Atom). x In deduce board p q) qs → x In s
    → x In cut_by board p qs s
unfolding cut_by
stays-in board p x s every_none h = h
stays-in board p x s (every {a = q} k ks) h = stays-in board p x (intersect s (deduce board p q)) ks (in-intersect h k)

-- And so with all findings of pairs.
left-by-all : (x : Sign) (s : SignSet) (fs : List SignSet) → x In cut_by_all s fs → Every (λ (f : SignSet). x In f) fs × (x In s)
unfolding cut_by_all
left-by-all x s [] h = (every_none, h)
left-by-all x s (f ∷ fs) h =
    let rest = left-by-all x (intersect s f) fs h in
    (every (in_right s f rest.1) rest.0, in_left s f rest.1)

-- A set cut by all deductions of p and all findings of pairs.
abbrev pub cut_whole : Board → Polynomial → List Atom → SignSet → SignSet
cut_whole board p qs s = cut_by_all (cut_by board p qs s) (tries board p qs)

cut-once : (board : Board) (p : Polynomial) (qs : List Atom) (s : SignSet) → PartOf (cut_whole board p qs s) (cut_by board p qs (cut_whole board p qs s))
cut-once board p qs s = record {
  each = λ x h. stays-in board p x (cut_whole board p qs s) (left_in board p x qs s (left-by-all x (cut_by board p qs s) (tries board p qs) h).1).0 h;
}

cut-by-pairs : (s : SignSet) (fs : List SignSet) → Every (PartOf (cut_by_all s fs)) fs
cut-by-pairs s fs = each_part (cut_by_all s fs) fs (λ x h. (left-by-all x s fs h).0)
  where
    of-first : {P : SignSet → Type 0} {f : SignSet} {fs : List SignSet} → Every P (f ∷ fs) → P f
    of-first (every h hs) = h

    of-later : {P : SignSet → Type 0} {f : SignSet} {fs : List SignSet} → Every P (f ∷ fs) → Every P fs
    of-later (every h hs) = hs

    each_part : (cut : SignSet) (fs : List SignSet) → ((x : Sign) → x In cut → Every (λ (f : SignSet). x In f) fs) → Every (PartOf cut) fs
    each_part cut [] h = every_none
    each_part cut (f ∷ fs) h = every (record { each = λ x k. of-first (h x k) }) (each_part cut fs (λ x k. of-later (h x k)))

-- ---- What atoms leave of the sets of a board by what they say on another one.

unfoldable pub left_from : ℕ → List Atom → Board → ℕ → Board → Board
left_from n atoms other i [] = []
left_from n atoms other i (s ∷ board) = cut_whole other (variable n i) atoms s ∷ left_from n atoms other (suc i) board

left-length : (n : ℕ) (atoms : List Atom) (other : Board) (i : ℕ) (board : Board) → length (left_from n atoms other i board) ≡ length board
unfolding left_from
left-length n atoms other i [] = refl
left-length n atoms other i (s ∷ board) = ap suc (left-length n atoms other (suc i) board)

left_at : (n : ℕ) (atoms : List Atom) (other : Board) (i : ℕ) (board : Board) (j : ℕ) → j < length board
    → get_or (left_from n atoms other i board) j full ≡ cut_whole other (variable n (i + j)) atoms (get_or board j full)
unfolding left_from
left_at n atoms other i [] j h = absurd (omega arith)
left_at n atoms other i (s ∷ board) zero h = let e : i + 0 ≡ i = omega arith in rw e
left_at n atoms other i (s ∷ board) (suc j) h =
    let e : suc i + j ≡ i + suc j = omega arith in
    rw e at (left_at n atoms other (suc i) board j (omega arith))

-- They are a part of the sets.
left-narrow : (n : ℕ) (atoms : List Atom) (other : Board) (i : ℕ) (board : Board) → Wider (left_from n atoms other i board) board
unfolding left_from
left-narrow n atoms other i [] = no_sets
left-narrow n atoms other i (s ∷ board) =
    sets (record { each = λ x h. (left_in other (variable n i) x atoms s (left-by-all x _ (tries other (variable n i) atoms) h).1).1 })
    (left-narrow n atoms other (suc i) board)

-- ---- A run stays above them.

-- The turns of a variable on a board above the settled one leave it no less than that, and so do pairs.
record Above (n : ℕ) (st : State) (atoms : List Atom) (low : Board) (board : Board) : Type 0 where
  settles : Afresh n st (record { board = board; atoms = atoms })
  above : Wider low board
  idle : (i : ℕ) → i < n → PartOf (get_or low i full) (cut_by st.board (variable n i) atoms (get_or low i full))
  pairs : (i : ℕ) → i < length low → Every (PartOf (get_or low i full)) (tries st.board (variable n i) atoms)

above-turn : {n : ℕ} {st : State} {atoms : List Atom} {low board : Board} → Above n st atoms low board → (i : ℕ) → i < n
    → Above n st atoms low (turn n atoms board i)
unfolding turn
above-turn {n} {st} {atoms} t i h =
    let lows : LowAtoms atoms = some-low t.settles.lists t.settles.still.low.atoms in
    let cut = cut_by-wider t.settles.boards t.settles.still.low.board (variable n i) (all-kept atoms) lows (get_d_wider t.above i) in
    record {
      settles = afresh-after t.settles (one-more i h no_turn);
      above = set-wide t.above i (part-trans (t.idle i h) cut);
      idle = t.idle;
      pairs = t.pairs;
    }

above-turns : {n : ℕ} {st : State} {atoms : List Atom} {low board : Board} → Above n st atoms low board → (i k : ℕ) → i + k ≤ n
    → Above n st atoms low (turns n atoms board i k)
unfolding turns
above-turns t i zero h = t
above-turns {n} {st} {atoms} {low} {board} t i (suc k) h =
    above-turns {board = turn n atoms board i} (above-turn t i (omega arith)) (suc i) k (omega arith)

above-round : {n : ℕ} {st su : State} {low : Board} → Above n st su.atoms low su.board → Above n st (round n su).atoms low (round n su).board
unfolding round
above-round {n} {st} {su} {low} t =
    let r = above-turns t 0 n (omega arith) in
    subst (λ (l : List Atom). Above n st l low (turns n su.atoms su.board 0 n)) (sym (no-atom-cut t.settles)) r

-- What pairs find of a variable leaves no less either.
board-above : {n : ℕ} {atoms : List Atom} {board : Board} {i : ℕ} {low l m : List SignSet} → Wider low l
    → ((j : ℕ) → j < length low → Every (PartOf (get_or low j full)) (tries board (variable n (i + j)) atoms)) → BoardFound n atoms board i l m → Wider low m
board-above {n = n} {atoms = atoms} {board = board} {i = i} {m = m} no_sets h x7 = elim x7 [ ]
board-above {i = i} (sets p w) h (found_here {s = s} c) =
    let here : i + 0 ≡ i = omega arith in sets (first-keeps s p (rw here at (h 0 (omega arith))) c) w
board-above {i = i} (sets p w) h (found_later c) =
    sets p (board-above w (λ j b. let next : i + suc j ≡ suc i + j = omega arith in rw next at (h (suc j) (omega arith))) c)

above-found : {n : ℕ} {st su sv : State} {low : Board} → Above n st su.atoms low su.board → search n su ≡ some sv → Above n st sv.atoms low sv.board
above-found {n} {st} {su} {sv} {low} t e = search-finds (λ (sw : State). Afresh n st sw → Above n st sw.atoms low sw.board) n su e
    (λ new f u. record {
      settles = u;
      above = board-above t.above (λ j b. let first : 0 + j ≡ j = omega arith in rw first (weaker-every
          (tries-wider t.settles.boards (variable n j) (all-kept su.atoms) (some-every t.settles.lists (settled-filled t.settles.still))) (t.pairs j b)))
          (board-found n su.atoms su.board 0 n su.board f);
      idle = t.idle;
      pairs = t.pairs;
    })
    (λ l f u. absurd (none-ne-some l (sym (atoms-idle t.settles) ∙ f))) (afresh-found t.settles e)

spends : {n : ℕ} {st su : State} {k : ℕ} {o : Outcome} (low : Board) → Above n st su.atoms low su.board → LowBoard su.board → Run n su k o
    → k + spare_all low ≤ spare_all su.board + 1
unfolding spare_of
spends low t h (finds_contradiction e) = never_both e (no-empty (afresh-round t.settles))
spends low t h (changes_nothing e u i) = omega (arith, wider-spare t.above)
spends low t h (pair_contradicts e u i b) = never_both b (no-empty (afresh-found (afresh-round t.settles) i))
spends {n} {su} low t h (pair_goes_on {sv = sv} e u i b r) =
    let f = afresh-round t.settles in
    let same : spare_all (sets_of (round n su).atoms) ≡ spare_all (sets_of su.atoms) = ap (λ (l : List Atom). spare_all (sets_of l)) (no-atom-cut t.settles) in
    let again : spare_all (sets_of sv.atoms) ≡ spare_all (sets_of (round n su).atoms) = ap (λ (l : List Atom). spare_all (sets_of l)) (no-atom-found f i) in
    let kept = round-low n su h in
    omega (
      arith,
      spends low (above-found (above-round t) i) (search-low n (round n su) i kept).board r,
      (searched n (round n su) i).falls (all-low f kept.board) b,
      round-spare n su (all-low t.settles h),
      same,
      again,
    )
spends {n} {su} low t h (goes_on e u r) =
    let same : spare_all (sets_of (round n su).atoms) ≡ spare_all (sets_of su.atoms) = ap (λ (l : List Atom). spare_all (sets_of l)) (no-atom-cut t.settles) in
    omega (arith, spends low (above-round t) (round-low n su h).board r, round-falls n su (all-low t.settles h) e u, same)

-- The run over some of the atoms that carry the sets of a settled state takes at most one round more than the signs that its start has above what
-- these atoms leave of it by what they say on the settled board.
pub fresh-at-most-left : (n : ℕ) (l : List Atom) {st : State} → run n l ≡ settled st → (others : List Atom)
    → Some (carried n st.board l st.atoms) others
    → let su = start n others in run_count n others + spare_all (left_from n su.atoms st.board 0 su.board) ≤ spare_all su.board + 1
fresh-at-most-left n l {st} e others f =
    let su : State = start n others in
    let t = afresh-start n l e f in
    spends (left_from n su.atoms st.board 0 su.board)
    (record {
      settles = t;
      above = left-narrow n su.atoms st.board 0 su.board;
      idle = λ i h.
          let at : get_or (left_from n su.atoms st.board 0 su.board) i full ≡ cut_whole st.board (variable n (0 + i)) su.atoms (get_or su.board i full) =
          left_at n su.atoms st.board 0 su.board i (rw (start-length n others) h) in
          let same : 0 + i ≡ i = omega arith in
          rw (at, same) (cut-once st.board (variable n i) su.atoms (get_or su.board i full));
      pairs = λ i h.
          let at : get_or (left_from n su.atoms st.board 0 su.board) i full ≡ cut_whole st.board (variable n (0 + i)) su.atoms (get_or su.board i full) =
          left_at n su.atoms st.board 0 su.board i (rw (left-length n su.atoms st.board 0 su.board) at h) in
          let same : 0 + i ≡ i = omega arith in
          rw (at, same) (cut-by-pairs (cut_by st.board (variable n i) su.atoms (get_or su.board i full)) (tries st.board (variable n i) su.atoms));
    }) (start-low n others) (run-counted n others)
