-- Turns of variables in any order, each as often as one likes, lead to the end that the rounds lead to.
-- 01, "Rounds": "for i from 1 to n"; what the rounds settle in does not depend on that order, only the number of rounds begun does.
use Rattle.std.specs.Prelude.{◌≡◌, List, [], ◌∷◌, ℕ, zero, suc, ◌+◌, ◌<◌, ◌≤◌, length, get_or, set}
use Rattle.std.proofs.Math.Path.{refl}
use Rattle.std.proofs.Common.{sym, ap, ◌∙◌, subst, arith, lit<, get_or-set_same, get_or-set_other}
use Rattle.std.proofs.Math.Decide.{dec_lt}
use Rattle.std.proofs.Math.ListN.{length-set}
use Rattle.std.proofs.lemmas.List.{set-get_or}
use Rattle.rules.specs.Signs.{SignSet, empty, full, intersect}
use Rattle.rules.specs.Polynomial.{Atom, Board, variable}
use Rattle.rules.specs.TwoAtoms.{tries, cut_by_all}
use Rattle.rules.specs.Rounds.{cut_by, turn, turns, State, round, rounds, enough, Outcome, contradiction, settled}
use Rattle.sign_laws.specs.Lists.{Every, every_none, every, every_set}
use Rattle.sign_laws.specs.Sets.{in-empty, in-intersect, PartOf, part-trans}
use Rattle.ending_laws.specs.Searches.{none-cuts, search-idle, board-none-at}
use Rattle.ending_laws.specs.Rounds.{Run, rounds-end}
use Rattle.removal_laws.specs.Wider.{Wider}
use Rattle.removal_laws.specs.Fewer.{get_d_wider, set-wide}
use Rattle.removal_laws.specs.Rounds.{LowBoard, WiderState, turn_low, cut_by-wider}
use Rattle.removal_laws.specs.TwoAtoms.{tries-wider, weaker-every}
use Rattle.removal_laws.specs.Settled.{Settled, Settles, settles-from}
use Rattle.removal_laws.specs.Searched.{settled-filled}
use Rattle.removal_laws.specs.Said.{Widens, widens-run}
use Rattle.turn_laws.specs.Equal.{states-equal, board-itself, wider-both, set-narrow, turn-narrow, Narrows, run-narrow}

-- The boards that turns of the n variables over the atoms leave of a first board, in any order. A turn may be taken in part: some deductions leave
-- the variable a set between what it had and what the whole turn leaves. And so with the findings of pairs for a variable (02, #111), some or all.
pub data AfterTurns (n : ℕ) (atoms : List Atom) (first : Board) : Board → Type 0 where
  no_turn : AfterTurns n atoms first first
  one-more : {board : Board} (i : ℕ) → i < n → AfterTurns n atoms first board → AfterTurns n atoms first (turn n atoms board i)
  in_part : {board : Board} (i : ℕ) {s : SignSet} → i < n → s < 8 → PartOf (cut_by board (variable n i) atoms (get_or board i full)) s
      → PartOf s (get_or board i full) → AfterTurns n atoms first board → AfterTurns n atoms first (set board i s)
  by_pairs : {board : Board} (i : ℕ) {s : SignSet} → i < n → s < 8 → PartOf (cut_by_all (get_or board i full) (tries board (variable n i) atoms)) s
      → PartOf s (get_or board i full) → AfterTurns n atoms first board → AfterTurns n atoms first (set board i s)

-- ---- What holds of each.

module _ {n : ℕ} {atoms : List Atom} {first : Board} where
  -- Its sets are below 8 if the first one's are.
  pub after-low : LowBoard first → {board : Board} → AfterTurns n atoms first board → LowBoard board
  after-low low no_turn = low
  after-low low (one-more {board} i h t) = turn_low n atoms board i (after-low low t)
  after-low low (in_part i h small below above t) = every_set i _ small (after-low low t)
  after-low low (by_pairs i h small below above t) = every_set i _ small (after-low low t)

  -- It has as many sets.
  pub after-length : {board : Board} → AfterTurns n atoms first board → length board ≡ length first
  unfolding turn
  after-length no_turn = refl
  after-length (one-more {board} i h t) = length-set board i _ ∙ after-length t
  after-length (in_part {board} i h small below above t) = length-set board i _ ∙ after-length t
  after-length (by_pairs {board} i h small below above t) = length-set board i _ ∙ after-length t

  -- The first one is wider.
  pub after-narrow : {board : Board} → AfterTurns n atoms first board → Wider board first
  after-narrow no_turn = board-itself first
  after-narrow (one-more i h t) = turn-narrow n atoms i (after-narrow t)
  after-narrow (in_part i h small below above t) = set-narrow (after-narrow t) i above
  after-narrow (by_pairs i h small below above t) = set-narrow (after-narrow t) i above

-- Turns after turns.
pub after_both : {n : ℕ} {atoms : List Atom} {first second third : Board} → AfterTurns n atoms first second → AfterTurns n atoms second third
    → AfterTurns n atoms first third
after_both t no_turn = t
after_both t (one-more i h u) = one-more i h (after_both t u)
after_both t (in_part i h small below above u) = in_part i h small below above (after_both t u)
after_both t (by_pairs i h small below above u) = by_pairs i h small below above (after_both t u)

-- ---- Turns that leave the board leave each variable's set.

turns-before : (n : ℕ) (atoms : List Atom) (board : Board) (i k j : ℕ) → j < i → get_or (turns n atoms board i k) j full ≡ get_or board j full
unfolding turns turn
turns-before n atoms board i zero j h = refl
turns-before n atoms board i (suc k) j h =
    turns-before n atoms (turn n atoms board i) (suc i) k j (omega arith) ∙ get_or-set_other board i j _ full (λ e. omega arith)

first-idle : (n : ℕ) (atoms : List Atom) (board : Board) (i k : ℕ) → i < length board → turns n atoms board i (suc k) ≡ board
    → cut_by board (variable n i) atoms (get_or board i full) ≡ get_or board i full
unfolding turns turn
first-idle n atoms board i k h e =
    sym (get_or-set_same board i _ full h) ∙ sym (turns-before n atoms (turn n atoms board i) (suc i) k i (omega arith))
    ∙ ap (λ (b : Board). get_or b i full) e

turns-idle : (n : ℕ) (atoms : List Atom) (board : Board) (i k : ℕ) → i + k ≤ length board → turns n atoms board i k ≡ board
    → (j : ℕ) → i ≤ j → j < i + k → cut_by board (variable n j) atoms (get_or board j full) ≡ get_or board j full
unfolding turns turn
turns-idle n atoms board i zero h e j g l = absurd (omega arith)
turns-idle n atoms board i (suc k) h e j g l =
    let first = first-idle n atoms board i k (omega arith) e in
    let same : turn n atoms board i ≡ board = ap (set board i) first ∙ set-get_or board i full in
    by-place first (dec_lt i j) (λ b. turns-idle n atoms board (suc i) k (omega arith) (rw same at e) j b (omega arith))
  where
    by-place : cut_by board (variable n i) atoms (get_or board i full) ≡ get_or board i full → Dec (i < j)
        → (i < j → cut_by board (variable n j) atoms (get_or board j full) ≡ get_or board j full)
        → cut_by board (variable n j) atoms (get_or board j full) ≡ get_or board j full
    by-place first (yes b) later = later b
    by-place first (no b) later = let here : i ≡ j = omega arith in rw here at first

settled-idle : {n : ℕ} {st : State} → Settled n st → (i : ℕ) → i < n
    → cut_by st.board (variable n i) st.atoms (get_or st.board i full) ≡ get_or st.board i full
unfolding round
settled-idle {n} {st} s i h =
    turns-idle n st.atoms st.board 0 n (omega (arith, s.many)) (ap (λ (sv : State). sv.board) s.still) i (omega arith) (omega arith)

-- ---- Turns from a state that is wider than a settled one leave a state that is.

-- What a turn cuts a wider state's set to is no narrower than the settled set.
pub cut-wider : {n : ℕ} {st su : State} → Settled n st → WiderState st su → (i : ℕ) → i < n
    → PartOf (get_or st.board i full) (cut_by su.board (variable n i) su.atoms (get_or su.board i full))
cut-wider {n} s w i h =
    rw (settled-idle s i h) at (cut_by-wider w.boards s.low.board (variable n i) w.lists s.low.atoms (get_d_wider w.boards i))

-- Each finding of pairs for a variable of a wider state holds the settled set.
pub pairs-hold : {n : ℕ} {st su : State} → Settled n st → WiderState st su → (i : ℕ) → i < n
    → Every (PartOf (get_or st.board i full)) (tries su.board (variable n i) su.atoms)
pairs-hold {n} {st} s w i h =
    let own = get_or st.board i full in
    let first : 0 + i ≡ i = omega arith in
    let none_here = rw first at (board-none-at n st.atoms st.board 0 n st.board (search-idle n st s.idle).0 i h (omega (arith, s.many))) in
    weaker-every (tries-wider w.boards (variable n i) w.lists (settled-filled s)) (none-cuts own (tries st.board (variable n i) st.atoms) none_here)

part-all : {x s : SignSet} {fs : List SignSet} → PartOf x s → Every (PartOf x) fs → PartOf x (cut_by_all s fs)
unfolding cut_by_all
part-all p every_none = p
part-all {x = x} {s = s} p (every {a = a} {l = l} h hs) = part-all {s = intersect s a} (record { each = λ y k. in-intersect (p.each y k) (h.each y k) }) hs

-- So what they leave of a variable's set is no narrower than the settled set.
pub pairs-wider : {n : ℕ} {st su : State} → Settled n st → WiderState st su → (i : ℕ) → i < n
    → PartOf (get_or st.board i full) (cut_by_all (get_or su.board i full) (tries su.board (variable n i) su.atoms))
pairs-wider s w i h = part-all (get_d_wider w.boards i) (pairs-hold s w i h)

pub after-wider : {n : ℕ} {st : State} → Settled n st → {atoms : List Atom} {first : Board} → WiderState st (record { board = first; atoms = atoms })
    → {board : Board} → AfterTurns n atoms first board → WiderState st (record { board = board; atoms = atoms })
unfolding turn
after-wider s w no_turn = w
after-wider s w (one-more i h t) =
    let v = after-wider s w t in record { boards = set-wide v.boards i (cut-wider s v i h); lists = v.lists }
after-wider s w (in_part i h small below above t) =
    let v = after-wider s w t in record { boards = set-wide v.boards i (part-trans (cut-wider s v i h) below); lists = v.lists }
after-wider s w (by_pairs i h small below above t) =
    let v = after-wider s w t in record { boards = set-wide v.boards i (part-trans (pairs-wider s v i h) below); lists = v.lists }

-- ---- The same end.

-- What the rounds from a state come to.
abbrev pub end : ℕ → State → Outcome
end n st = rounds n (enough st) st

-- Turns in any order change nothing about it.
pub same_end : {n : ℕ} {atoms : List Atom} {first board : Board} → LowBoard first → length first ≡ n → AfterTurns n atoms first board
    → end n (record { board = board; atoms = atoms }) ≡ end n (record { board = first; atoms = atoms })
same_end {n} {atoms} {first} {board} low many t =
    by-outcome _ _ (rounds-end n after) (rounds-end n before) (settles-from (rounds-end n after) (after-low low t) (after-length t ∙ many))
    (settles-from (rounds-end n before) low many)
  where
    before : State
    before = record { board = first; atoms = atoms }

    after : State
    after = record { board = board; atoms = atoms }

    back : {st : State} → WiderState st after → WiderState st before
    back w = record { boards = wider-both w.boards (after-narrow t); lists = w.lists }

    by-outcome : (o q : Outcome) {j k : ℕ} → Run n after j o → Run n before k q → Settles n o → Settles n q → o ≡ q
    by-outcome contradiction contradiction r s a b = refl
    by-outcome contradiction (settled st) r s a b = absurd (widens-run b r (after-wider b (run-narrow s) t))
    by-outcome (settled st) contradiction r s a b = absurd (widens-run a s (back (run-narrow r)))
    by-outcome (settled st) (settled su) r s a b =
        ap settled (states-equal a.low b.low (widens-run a s (back (run-narrow r))) (widens-run b r (after-wider b (run-narrow s) t)))

-- ---- Turns that are needless.

-- A turn that leaves the board as it is.
abbrev pub Idle : ℕ → List Atom → Board → ℕ → Type 0
Idle n atoms board i = turn n atoms board i ≡ board

-- Where each variable's is idle, so are the turns of a round.
pub all-idle : (n : ℕ) (atoms : List Atom) (board : Board) (i k : ℕ) → ((j : ℕ) → j < i + k → Idle n atoms board j) → turns n atoms board i k ≡ board
unfolding turns
all-idle n atoms board i zero h = refl
all-idle n atoms board i (suc k) h =
    ap (λ (b : Board). turns n atoms b (suc i) k) (h i (omega arith)) ∙ all-idle n atoms board (suc i) k (λ j b. h j (omega arith))

-- Sets below which no turn goes: each is a part of what the variable's turn leaves.
pub record Floor (n : ℕ) (atoms : List Atom) (first floor : Board) : Type 0 where
  pub low : (i : ℕ) → i < n → get_or floor i full < 8
  pub below : {board : Board} → AfterTurns n atoms first board → (i : ℕ) → i < n
      → PartOf (get_or floor i full) (cut_by board (variable n i) atoms (get_or board i full))

-- So they stay, turns later.
pub floor-later : {n : ℕ} {atoms : List Atom} {first second floor : Board} → AfterTurns n atoms first second → Floor n atoms first floor
    → Floor n atoms second floor
floor-later a f = record { low = f.low; below = λ t i h. f.below (after_both a t) i h }

-- Empty sets are such.
pub floor-empty : {n : ℕ} {atoms : List Atom} {first floor : Board} → ((i : ℕ) → i < n → get_or floor i full ≡ empty) → Floor n atoms first floor
floor-empty none = record { low = λ i h. rw (none i h) (lit< tt); below = λ t i h. rw (none i h) (record { each = λ x k. in-empty k }) }
