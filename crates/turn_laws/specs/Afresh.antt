-- Fresh rounds over some of the atoms that carry a settled state's sets cut no atom and find no contradiction: only the variables have their turns,
-- in any order. 01, "A level", step 5: "what the other remaining atoms (rounds run afresh on them alone) say of it".
use Rattle.std.specs.Prelude.{◌≡◌, refl, false, ℕ, suc, ◌+◌, ◌*◌, ◌<◌, length, get_or, set}
use Rattle.std.proofs.Common.{sym, ◌∙◌, subst, lit<}
use Rattle.std.proofs.Math.Path.{ap, ap₂}
use mathlib.Core.List.{List, [], ◌∷◌, ◌++◌}
use Rattle.std.proofs.Math.Option.{none, some, none-ne-some}
use native.Mathlib.Omega.{arith}
use Rattle.std.proofs.lemmas.List.{set-get_or}
use Rattle.rules.specs.Signs.{SignSet, full}
use Rattle.rules.specs.Polynomial.{Atom, Board, variable}
use Rattle.rules.specs.TwoAtoms.{tries, first_cut}
use Rattle.rules.specs.Rounds.{turn, turns, cut_atom, cut_atoms, State, round, sets_of, same_sets, has_empty, unchanged, settled, after_round, rounds}
use Rattle.rules.specs.Rounds.{search_board, atoms_or, search_atoms, state_or, search, after_search, start, enough, run, carried}
use Rattle.sign_laws.specs.Booleans.{never_true, never_both}
use Rattle.sign_laws.specs.Lists.{Every, every_none, every, every_append, every-get_d}
use Rattle.sign_laws.specs.Sets.{PartOf, parts-equal}
use Rattle.ending_laws.specs.Cuts.{cut_atom-part, cut_atom-below}
use Rattle.ending_laws.specs.Searches.{none-cuts, parts-cut-none, search-finds, search-idle, atoms-none, board-idle}
use Rattle.ending_laws.specs.FirstRound.{same-unchanged}
use Rattle.ending_laws.specs.Rounds.{start-length}
use Rattle.removal_laws.specs.Wider.{Wider}
use Rattle.removal_laws.specs.Fewer.{Fewer, itself}
use Rattle.removal_laws.specs.Rounds.{LowBoard, LowAtoms, round-low, WiderState, cut_atom-wider, round-wider}
use Rattle.removal_laws.specs.Settled.{Settled, run-settles, start-low}
use Rattle.removal_laws.specs.Starts.{carries-cut, run-carries, start-wider}
use Rattle.removal_laws.specs.TwoAtoms.{Filled, tries-wider, weaker-every}
use Rattle.removal_laws.specs.Searched.{settled-filled, search-wider}
use Rattle.removal_laws.specs.Said.{state-empty}
use Rattle.turn_laws.specs.AfterTurns.{AfterTurns, after-low, after-wider, cut-wider, pairs-hold, same_end, Idle, all-idle, Floor}
use Rattle.turn_laws.specs.Some.{Some, none_there, not_there, there, some-fewer, some-append, last-not-there, non_variable-some}

-- ---- A cut that leaves all atoms leaves some of them, on a wider board.

first-stays : {a b : Atom} {k m : List Atom} → a ∷ k ≡ b ∷ m → a ≡ b
first-stays e = cc

rest-stays : {a b : Atom} {k m : List Atom} → a ∷ k ≡ b ∷ m → k ≡ m
rest-stays e = cc

cut_atom-stays : {board wide : Board} → Wider board wide → LowBoard board → {others fewer : List Atom} → Fewer others fewer → LowAtoms others
    → {a : Atom} → a.set < 8 → cut_atom board others a ≡ a → cut_atom wide fewer a ≡ a
unfolding cut_atom
cut_atom-stays {wide} w low {fewer} f h {a} k e =
    let wider : PartOf a.set (cut_atom wide fewer a).set =
    subst (λ (c : Atom). PartOf c.set (cut_atom wide fewer a).set) e (cut_atom-wider w low f h (itself a)).set in
    ap (λ (s : SignSet). record { polynomial = a.polynomial; set = s })
    (parts-equal (cut_atom-below wide fewer a) k (cut_atom-part wide fewer a) wider)

cut_atoms-stay : {board wide : Board} → Wider board wide → LowBoard board → {before fewer : List Atom} → Some before fewer → LowAtoms before
    → {l m : List Atom} → Some l m → LowAtoms l → cut_atoms board before l ≡ l → cut_atoms wide fewer m ≡ m
unfolding cut_atoms
cut_atoms-stay w low f h none_there every_none e = refl
cut_atoms-stay w low f h (not_there {a} g) (every k ks) e =
    cut_atoms-stay w low (last-not-there a f) (every_append h (every k every_none)) g ks (rest-stays e)
cut_atoms-stay w low f h (there g) (every k ks) e =
    ap₂ (λ (a : Atom) (l : List Atom). a ∷ l) (cut_atom-stays w low (some-fewer (some-append f g)) (every_append h ks) k (first-stays e))
    (cut_atoms-stay w low (some-append f (there none_there)) (every_append h (every k every_none)) g ks (rest-stays e))

-- So it is with what pairs find of them.
search-stays : {board wide : Board} → Wider board wide → {before fewer : List Atom} → Some before fewer → Every Filled before → {l m : List Atom} → Some l m
    → Every Filled l → search_atoms board before l ≡ none → search_atoms wide fewer m ≡ none
unfolding search_atoms atoms_or
search-stays w f h none_there every_none e = refl
search-stays {board} w {before} f h (not_there {a} {all = l} g) (every k ks) e =
    search-stays w (last-not-there a f) (every_append h (every k every_none)) g ks (atoms-none board before a l e).1
search-stays {board} {wide} w {before} {fewer} f h (there {a} {all = l} {these = m} g) (every k ks) e =
    let idle = atoms-none board before a l e in
    let here : first_cut a.set (tries wide a.polynomial (fewer ++ m)) ≡ none = parts-cut-none a.set k.low
    (weaker-every (tries-wider w a.polynomial (some-fewer (some-append f g)) (every_append h ks)) (none-cuts a.set (tries board a.polynomial (before ++ l)) idle.0)) in
    let rest = search-stays w (some-append f (there none_there)) (every_append h (every k every_none)) g ks idle.1 in
    rw (here, rest)

-- ---- The states of such rounds.

-- st is settled, and su has a board that is wider than st's, and some of st's atoms with the sets that they have there.
pub record Afresh (n : ℕ) (st su : State) : Type 0 where
  pub still : Settled n st
  pub boards : Wider st.board su.board
  pub lists : Some st.atoms su.atoms

abbrev afresh_wider : {n : ℕ} {st su : State} → Afresh n st su → WiderState st su
afresh_wider t = record { boards = t.boards; lists = some-fewer t.lists }

-- At the start.
pub afresh-start : (n : ℕ) (l : List Atom) {st : State} → run n l ≡ settled st → {others : List Atom}
    → Some (carried n st.board l st.atoms) others → Afresh n st (start n others)
unfolding start
afresh-start n l {st} e f =
    let s = run-settles n l e in
    let c = run-carries n l e in
    record { still = s; boards = (start-wider s c (some-fewer f)).boards; lists = rw (carries-cut n st.board c) at (non_variable-some n f) }

-- After turns.
pub afresh-after : {n : ℕ} {st su : State} → Afresh n st su → {board : Board} → AfterTurns n su.atoms su.board board
    → Afresh n st (record { board = board; atoms = su.atoms })
afresh-after t a = record { still = t.still; boards = (after-wider t.still (afresh_wider t) a).boards; lists = t.lists }

-- No pair finds anything of the variable.
abbrev pub PairsIdle : ℕ → State → ℕ → Type 0
PairsIdle n su i = first_cut (get_or su.board i full) (tries su.board (variable n i) su.atoms) ≡ none

module _ {n : ℕ} {st su : State} (t : Afresh n st su) where
  -- No set is empty.
  pub no-empty : has_empty su ≡ false
  no-empty = never_true (has_empty su) (λ e. never_both (state-empty (afresh_wider t) t.still.low e) t.still.filled)

  -- A round cuts no atom's set.
  pub no-atom-cut : (round n su).atoms ≡ su.atoms
  unfolding round
  no-atom-cut =
      let boards = (round-wider n t.still.low (afresh_wider t)).boards in
      cut_atoms-stay boards (round-low n st t.still.low.board).board none_there every_none t.lists t.still.low.atoms
      (ap (λ (sv : State). sv.atoms) t.still.still)

  -- And what it leaves is such a state.
  pub afresh-round : Afresh n st (round n su)
  afresh-round = record {
    still = t.still;
    boards = subst (λ (sv : State). Wider sv.board (round n su).board) t.still.still (round-wider n t.still.low (afresh_wider t)).boards;
    lists = rw no-atom-cut t.lists;
  }

  -- A round in which each variable's turn is idle changes nothing.
  idle-round : ((i : ℕ) → i < n → Idle n su.atoms su.board i) → round n su ≡ su
  unfolding round
  idle-round h =
      let turned = all-idle n su.atoms su.board 0 n (λ j b. h j (omega arith)) in
      ap₂ (λ (b : Board) (l : List Atom). record { board = b; atoms = l }) turned no-atom-cut

  -- No pair finds anything of an atom.
  pub atoms-idle : search_atoms su.board [] su.atoms ≡ none
  atoms-idle = search-stays t.boards none_there every_none t.lists (settled-filled t.still) (search-idle n st t.still.idle).1

  -- So a search is one over the variables.
  pub by-variables : search n su ≡ state_or su (search_board n su.atoms su.board 0 n su.board) none
  unfolding search
  by-variables = ap (state_or su (search_board n su.atoms su.board 0 n su.board)) atoms-idle

  -- If no pair finds anything of a variable, no pair finds anything.
  idle-search : ((i : ℕ) → i < n → PairsIdle n su i) → search n su ≡ none
  unfolding search state_or
  idle-search h = ap₂ (state_or su) (board-idle n su.atoms su.board 0 n su.board (λ j b. let first : 0 + j ≡ j = omega arith in rw first (h j b))) atoms-idle

  -- What a search finds leaves the atoms,
  pub no-atom-found : {sv : State} → search n su ≡ some sv → sv.atoms ≡ su.atoms
  no-atom-found e = search-finds (λ (sv : State). sv.atoms ≡ su.atoms) n su e (λ sets f. refl)
      (λ l f. absurd (none-ne-some l (sym atoms-idle ∙ f)))

  -- and is such a state.
  pub afresh-found : {sv : State} → search n su ≡ some sv → Afresh n st sv
  afresh-found e = record { still = t.still; boards = (search-wider t.still (afresh_wider t) e).boards; lists = rw (no-atom-found e) t.lists }

-- The settled sets are a floor of the turns.
pub floor-settled : {n : ℕ} {st su : State} → Afresh n st su → Floor n su.atoms su.board st.board
floor-settled t = record {
  low = λ i h. every-get_d i full (lit< tt) t.still.low.board;
  below = λ a i h. cut-wider t.still (afresh_wider (afresh-after t a)) i h;
}

-- Rounds from a state where each variable's turn is idle, and its pairs are, end there.
idle-ends : {n : ℕ} (k : ℕ) {st su : State} → Afresh n st su → ((i : ℕ) → i < n → Idle n su.atoms su.board i) → ((i : ℕ) → i < n → PairsIdle n su i)
    → rounds n (suc k) su ≡ settled su
unfolding rounds after_round after_search
idle-ends {n} k {su} t h p = rw (idle-round t h, no-empty t, same-unchanged su su refl, idle-search t p)

-- So the run over some of the atoms that carry the sets of a settled state settles where turns and findings of pairs, in any order, have come to a board
-- on which each is idle.
pub run-by-turns : (n : ℕ) (l : List Atom) {st : State} → run n l ≡ settled st → (others : List Atom)
    → Some (carried n st.board l st.atoms) others → {board : Board} → AfterTurns n (start n others).atoms (start n others).board board
    → ((i : ℕ) → i < n → Idle n (start n others).atoms board i)
    → ((i : ℕ) → i < n → PairsIdle n (record { board = board; atoms = (start n others).atoms }) i)
    → run n others ≡ settled (record { board = board; atoms = (start n others).atoms })
unfolding run enough
run-by-turns n l e others f {board} a h p =
    let su : State = start n others in
    let more = 2 * (length board + length su.atoms) in
    let one : 2 * (length board + length su.atoms) + 1 ≡ suc more = omega arith in
    sym (same_end (start-low n others) (start-length n others) a)
    ∙ rw one (idle-ends more (afresh-after (afresh-start n l e f) a) h p)

-- And below the settled sets no pair need be tried: at such a set each pair is idle.
pub floor-pairs : {n : ℕ} {st su : State} → Afresh n st su → (i : ℕ) → i < n → get_or su.board i full ≡ get_or st.board i full → PairsIdle n su i
floor-pairs {n} {st} {su} t i h same = rw same
    (parts-cut-none (get_or st.board i full) (every-get_d i full (lit< tt) t.still.low.board) (pairs-hold t.still (afresh_wider t) i h))
