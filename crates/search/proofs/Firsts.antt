-- The first finding that changes a set: what it leaves is another set, and where no finding changes one it is the set itself.
-- So a search that has found nothing so far, and the first thing that it finds.
use mathlib.Core.Path.{◌≡◌, refl, sym, subst, ap, ◌∙◌}
use mathlib.Core.Bool.{false, true≢false}
use mathlib.Core.List.{List, [], ◌∷◌, ◌++◌}
use mathlib.Core.Option.{Option, none, some}
use Prim.Native.Nat.{ℕ, zero, suc, ◌+◌, ◌-◌, ◌%◌, ◌<◌, ◌≤◌}
use native.Mathlib.Nat.{zero-add}
use native.Mathlib.Numerals.{add-one}
use native.Mathlib.Omega.{arith}
use borrow.Author.Tests.{eq-eqb}
use lib.ListN.{length, get_or, set}
use lib.Seq.{get_or-set_same, get_or-set_other}
use Rattle.rules.specs.Signs.{SignSet, full}
use Rattle.rules.specs.Polynomial.{Atom, Board, variable}
use Rattle.rules.specs.TwoAtoms.{tries, first_cut}
use Rattle.rules.specs.Rounds.{sets_or, search_board, atoms_or, search_atoms}
use Rattle.ending_laws.specs.Searches.{board-idle}
use Rattle.table.specs.Table.{Table, form_at, atom_at, atoms_from}
use Rattle.two_atoms.specs.Cuts.{or_same, cut_in, first-changes}
use Rattle.round.specs.Walks.{before-next}

-- ---- one set

other-first : (s : SignSet) (x : Option SignSet) {r : SignSet} → r ≡ or_same s x → (r ≡ s → ⊥) → x ≡ some r
unfolding or_same
other-first s none e n = absurd (n e)
other-first s (some t) e n = ap some (sym e)

same_first : (s : SignSet) (fs : List SignSet) (x : Option SignSet) {r : SignSet} → first_cut s fs ≡ x → r ≡ or_same s x → r ≡ s → x ≡ none
unfolding or_same
same_first s fs none f e g = refl
same_first s fs (some t) f e g = absurd (true≢false (sym (eq-eqb t s (sym e ∙ g)) ∙ first-changes s fs t f))

module _ (s : SignSet) (fs : List SignSet) {r : SignSet} (cut : r ≡ cut_in false s fs) where
  -- what is left is another set: the first finding left it
  pub found_first : (r ≡ s → ⊥) → first_cut s fs ≡ some r
  unfolding cut_in
  found_first n = other-first s (first_cut s fs) cut n

  -- it is the set itself: no finding changes it
  pub found_none : r ≡ s → first_cut s fs ≡ none
  unfolding cut_in
  found_none e = same_first s fs (first_cut s fs) refl cut e

-- back: a set that no finding changes is left
pub none_left : (s : SignSet) (fs : List SignSet) → first_cut s fs ≡ none → s ≡ cut_in false s fs
unfolding cut_in or_same
none_left s fs e = rw e

-- ---- the first of the variables

pub board-first : (n : ℕ) (atoms : List Atom) (board : Board) (i k : ℕ) (l : List SignSet) (j : ℕ) {cut : SignSet} → j < k → j < length l
    → ((m : ℕ) → m < j → first_cut (get_or l m full) (tries board (variable n (i + m)) atoms) ≡ none)
    → first_cut (get_or l j full) (tries board (variable n (i + j)) atoms) ≡ some cut → search_board n atoms board i k l ≡ some (set l j cut)
unfolding search_board sets_or
board-first n atoms board i zero l j a b idle e = absurd (omega arith)
board-first n atoms board i (suc k) [] j a b idle e = absurd (omega arith)
board-first n atoms board i (suc k) (s ∷ later) zero a b idle e =
    let here : i + 0 ≡ i = omega arith in rw (rw here at e)
board-first n atoms board i (suc k) (s ∷ later) (suc j) a b idle e =
    let here : i + 0 ≡ i = omega arith in
    let next : i + suc j ≡ suc i + j = omega arith in
    let rest = board-first n atoms board (suc i) k later j (omega arith) (omega arith)
    (λ m h. let step : i + suc m ≡ suc i + m = omega arith in rw step at (idle (suc m) (omega arith))) (rw next at e) in
    rw (rw here at (idle 0 (omega arith)), rest)

module _ (n : ℕ) (atoms : List Atom) (board : Board) (k : ℕ) (l : List SignSet) where
  -- the first that is found
  pub first-of-board : (j : ℕ) {cut : SignSet} → j < k → j < length l
      → ((m : ℕ) → m < j → first_cut (get_or l m full) (tries board (variable n m) atoms) ≡ none)
      → first_cut (get_or l j full) (tries board (variable n j) atoms) ≡ some cut → search_board n atoms board 0 k l ≡ some (set l j cut)
  first-of-board j a b idle e = board-first n atoms board 0 k l j a b (λ m h. rw (zero-add m) (idle m h)) (rw (zero-add j) e)

  -- nothing is found
  pub none-of-board : ((j : ℕ) → j < k → first_cut (get_or l j full) (tries board (variable n j) atoms) ≡ none) → search_board n atoms board 0 k l ≡ none
  none-of-board idle = board-idle n atoms board 0 k l (λ j h. rw (zero-add j) (idle j h))

-- ---- the first of the atoms

-- what the pairs of the others first leave of the set of the atom at i, one of the first n
abbrev pub first_at : Table → List ℕ → List SignSet → Board → ℕ → ℕ → Option SignSet
first_at t numbers sets board n i =
    first_cut (get_or sets i 0)
    (tries board (form_at t (get_or numbers i 0 % 64)) (atoms_from t numbers sets 0 i ++ atoms_from t numbers sets (i + 1) (n - (i + 1))))

-- a set stored before them leaves the atoms from i on
pub set-later : (t : Table) (numbers : List ℕ) (sets : List SignSet) (i k j : ℕ) (cut : SignSet) → j < i
    → atoms_from t numbers (set sets j cut) i k ≡ atoms_from t numbers sets i k
unfolding atoms_from
set-later t numbers sets i zero j cut h = refl
set-later t numbers sets i (suc k) j cut h =
    rw (get_or-set_other sets j i cut 0 (λ (e : i ≡ j). omega arith))
    (ap (λ (l : List Atom). atom_at t numbers sets i ∷ l) (set-later t numbers sets (suc i) k j cut (omega arith)))

module _ (t : Table) (numbers : List ℕ) (sets : List SignSet) (board : Board) (n : ℕ) where
  later-at : (i k : ℕ) → i + suc k ≡ n → {x : Option SignSet} → first_at t numbers sets board n i ≡ x
      → first_cut (get_or sets i 0)
      (tries board (form_at t (get_or numbers i 0 % 64)) (atoms_from t numbers sets 0 i ++ atoms_from t numbers sets (suc i) k)) ≡ x
  later-at i k e f = let g : n - (i + 1) ≡ k = omega arith in rw (g, add-one i) at f

  pub atoms-idle : (i k : ℕ) → i + k ≡ n → ((j : ℕ) → i ≤ j → j < n → first_at t numbers sets board n j ≡ none)
      → search_atoms board (atoms_from t numbers sets 0 i) (atoms_from t numbers sets i k) ≡ none
  unfolding search_atoms atoms_or atoms_from
  atoms-idle i zero e idle = refl
  atoms-idle i (suc k) e idle =
      let rest = rw (before-next t numbers sets i) at (atoms-idle (suc i) k (omega arith) (λ j h l. idle j (omega arith) l)) in
      rw (later-at i k e (idle i (omega arith) (omega arith)), rest)

  pub atoms-first : (i k d : ℕ) {cut : SignSet} → i + k ≡ n → d < k → i + d < length sets
      → ((j : ℕ) → i ≤ j → j < i + d → first_at t numbers sets board n j ≡ none) → first_at t numbers sets board n (i + d) ≡ some cut
      → search_atoms board (atoms_from t numbers sets 0 i) (atoms_from t numbers sets i k) ≡ some (atoms_from t numbers (set sets (i + d) cut) i k)
  unfolding search_atoms atoms_or atoms_from
  atoms-first i zero d e a b idle f = absurd (omega arith)
  atoms-first i (suc k) zero {cut} e a b idle f =
      let here : i + 0 ≡ i = omega arith in
      subst (λ (p : ℕ). search_atoms board (atoms_from t numbers sets 0 i) (atoms_from t numbers sets i (suc k))
      ≡ some (atoms_from t numbers (set sets p cut) i (suc k))) (sym here)
      (rw (later-at i k e (rw here at f), get_or-set_same sets i cut 0 (omega arith), set-later t numbers sets (suc i) k i cut (omega arith)))
  atoms-first i (suc k) (suc d) {cut} e a b idle f =
      let next : i + suc d ≡ suc i + d = omega arith in
      let rest = rw (before-next t numbers sets i) at
      (atoms-first (suc i) k d (omega arith) (omega arith) (omega arith) (λ j h l. idle j (omega arith) (omega arith)) (rw next at f)) in
      let other : i ≡ suc i + d → ⊥ = λ q. omega arith in
      subst (λ (p : ℕ). search_atoms board (atoms_from t numbers sets 0 i) (atoms_from t numbers sets i (suc k))
      ≡ some (atoms_from t numbers (set sets p cut) i (suc k))) (sym next)
      (rw (later-at i k e (idle i (omega arith) (omega arith)), get_or-set_other sets (suc i + d) i cut 0 other, rest))

  pub first-of-atoms : (j : ℕ) {cut : SignSet} → j < n → j < length sets → ((m : ℕ) → m < j → first_at t numbers sets board n m ≡ none)
      → first_at t numbers sets board n j ≡ some cut
      → search_atoms board [] (atoms_from t numbers sets 0 n) ≡ some (atoms_from t numbers (set sets j cut) 0 n)
  unfolding atoms_from
  first-of-atoms j {cut} a b idle e =
      let here : first_at t numbers sets board n (0 + j) ≡ some cut = rw (zero-add j) e in
      let low : 0 + j < length sets = rw (zero-add j) b in
      rw (zero-add j) at (atoms-first 0 n j (zero-add n) a low (λ m h l. idle m (rw (zero-add j) at l)) here)

  pub none-of-atoms : ((j : ℕ) → j < n → first_at t numbers sets board n j ≡ none) → search_atoms board [] (atoms_from t numbers sets 0 n) ≡ none
  unfolding atoms_from
  none-of-atoms idle = atoms-idle 0 n (zero-add n) (λ j h l. idle j l)
