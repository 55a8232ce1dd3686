-- Request #108: a run without an atom that no cut of the first j rounds of a common run rests on is the common run up to there, and goes on by itself.
-- Where none of its cuts rests on it, its last one among them, and no pair finds anything after it, the run without it takes as many rounds.
use Rattle.std.specs.Prelude.{◌≡◌, refl, true, false, List}
use Rattle.std.proofs.Math.Path.{sym, ap}
use Rattle.std.proofs.Common.{◌∙◌}
use Rattle.std.proofs.Math.Option.{none}
use Prim.Native.Nat.{ℕ, zero, suc, ◌+◌, ◌<◌}
use native.Mathlib.Omega.{arith}
use Rattle.rules.specs.Polynomial.{Atom, Board}
use Rattle.rules.specs.Rounds.{turns, State, same_sets, settled, search_board, begun, start, enough, run, carried}
use Rattle.rules.specs.Count.{run_count}
use Rattle.sign_laws.specs.Lists.{Every}
use Rattle.ending_laws.specs.Rounds.{more-rounds-begin-no-more}
use Rattle.removal_laws.specs.Rounds.{LowBoard, LowAtoms}
use Rattle.removal_laws.specs.TwoAtoms.{Filled}
use Rattle.removal_laws.specs.Settled.{start-low}
use Rattle.removal_laws.specs.Searched.{settled-filled}
use Rattle.turn_laws.specs.Some.{Some, some-both, non_variable-some}
use Rattle.turn_laws.specs.Afresh.{afresh-start}
use Rattle.count_laws.specs.Fresh.{some-every, some-low}
use Rattle.count_laws.specs.Boards.{unless_still, turned_rounds, counted-by-turns}
use Rattle.count_laws.specs.Common.{RestTurns, same-turns, turns-stay-low, same-idle}

-- The board after so many rounds that cut no atom.
unfoldable pub after_rounds : ℕ → List Atom → ℕ → Board → Board
after_rounds n atoms zero board = board
after_rounds n atoms (suc j) board = let last = after_rounds n atoms j board in turns n atoms last 0 n

-- The cuts of a round on the board rest on some of the fewer atoms.
pub record RestOn (n : ℕ) (all fewer : List Atom) (board : Board) : Type 0 where
  pub these : List Atom
  pub there : Some fewer these
  pub rests : RestTurns n all these board 0 n

-- Each of so many rounds changes the board.
abbrev pub Moving : ℕ → List Atom → ℕ → Board → Type 0
Moving n all j board = (i : ℕ) → i < j → same_sets (after_rounds n all i board) (after_rounds n all (suc i) board) ≡ false

-- The cuts of each of them rest on some of the fewer atoms.
abbrev pub Resting : ℕ → List Atom → List Atom → ℕ → Board → Type 0
Resting n all fewer j board = (i : ℕ) → i < j → RestOn n all fewer (after_rounds n all i board)

-- No pair of the atoms finds anything of a variable on the board.
abbrev pub NoPair : ℕ → List Atom → Board → Type 0
NoPair n all board = search_board n all board 0 n board ≡ none

pub rounds-stay-low : (n : ℕ) (all : List Atom) (board : Board) → LowBoard board → (j : ℕ) → LowBoard (after_rounds n all j board)
unfolding after_rounds
rounds-stay-low n all board h zero = h
rounds-stay-low n all board h (suc j) = turns-stay-low n all _ (rounds-stay-low n all board h j) 0 n

module _ (n : ℕ) {all fewer : List Atom} (low : LowAtoms all) (lower : LowAtoms fewer) (f : Some all fewer) (board : Board) (h : LowBoard board) where
  -- such a round leaves the same board
  same-round : (j : ℕ) → RestOn n all fewer (after_rounds n all j board) → turns n fewer (after_rounds n all j board) 0 n ≡ after_rounds n all (suc j) board
  unfolding after_rounds
  same-round j r = same-turns n low lower f r.there (after_rounds n all j board) (rounds-stay-low n all board h j) 0 n r.rests

  pub onward : (j k : ℕ) → Resting n all fewer j board → Moving n all j board
      → turned_rounds n fewer (j + k) board ≡ j + turned_rounds n fewer k (after_rounds n all j board)
  unfolding turned_rounds after_rounds unless_still
  onward zero k rest move = let e : zero + k ≡ k = omega arith in rw e (omega arith)
  onward (suc j) k rest move =
      let last = after_rounds n all j board in
      let e : suc j + k ≡ j + suc k = omega arith in
      let so_far : turned_rounds n fewer (j + suc k) board ≡ j + turned_rounds n fewer (suc k) last =
      onward j (suc k) (λ i l. rest i (omega arith)) (λ i l. move i (omega arith)) in
      let one : turned_rounds n fewer (suc k) last ≡ suc (turned_rounds n fewer k (after_rounds n all (suc j) board)) =
      rw (same-round j (rest j (omega arith)), move j (omega arith)) in
      rw e (omega (arith, so_far, one))

  -- and one that changes nothing is the last, if no pair of all atoms finds anything after it: fewer atoms find no more
  pub at_rest : Every Filled all → (j k : ℕ) → 0 < k → RestOn n all fewer (after_rounds n all j board)
      → same_sets (after_rounds n all j board) (after_rounds n all (suc j) board) ≡ true → NoPair n all (after_rounds n all (suc j) board)
      → turned_rounds n fewer k (after_rounds n all j board) ≡ 1
  unfolding turned_rounds unless_still
  at_rest filled j zero l r e idle = absurd (omega arith)
  at_rest filled j (suc k) l r e idle =
      let next = after_rounds n all (suc j) board in
      let none_found : NoPair n fewer next = same-idle n filled f next 0 n (rounds-stay-low n all board h (suc j)) idle in
      rw (same-round j r, e, none_found)

-- ---- Step 5: the run over some atoms, after a common run over more of them; the variables' atoms are the same.

module _ (n : ℕ) (l : List Atom) {st : State} (settles : run n l ≡ settled st) (more others : List Atom)
    (f : Some (carried n st.board l st.atoms) more) (g : Some more others) (boards : (start n more).board ≡ (start n others).board) where
  abbrev all : State
  all = start n more

  abbrev fewer : State
  fewer = start n others

  pub common-onward : (j : ℕ) → Resting n all.atoms fewer.atoms j all.board → Moving n all.atoms j all.board
      → run_count n others ≡ j + turned_rounds n fewer.atoms (enough fewer) (after_rounds n all.atoms j all.board)
  unfolding run_count start
  common-onward j rest move =
      let t = afresh-start n l settles f in
      let u = afresh-start n l settles (some-both f g) in
      let turned : enough fewer + j ≡ j + enough fewer = omega arith in
      sym (more-rounds-begin-no-more n j fewer) ∙ ap (λ (k : ℕ). begun n k fewer) turned ∙ counted-by-turns u (j + enough fewer)
      ∙ ap (turned_rounds n fewer.atoms (j + enough fewer)) (sym boards)
      ∙ onward n (some-low t.lists t.still.low.atoms) (some-low u.lists u.still.low.atoms) (non_variable-some n g) all.board
      (start-low n more) j (enough fewer) rest move

  pub common-rounds : (j : ℕ) → Resting n all.atoms fewer.atoms (suc j) all.board → Moving n all.atoms j all.board
      → same_sets (after_rounds n all.atoms j all.board) (after_rounds n all.atoms (suc j) all.board) ≡ true
      → NoPair n all.atoms (after_rounds n all.atoms (suc j) all.board)
      → run_count n others ≡ suc j
  unfolding enough start
  common-rounds j rest move still idle =
      let t = afresh-start n l settles f in
      let u = afresh-start n l settles (some-both f g) in
      let last = common-onward j (λ i h. rest i (omega arith)) move in
      let filled = some-every t.lists (settled-filled t.still) in
      let one = at_rest n (some-low t.lists t.still.low.atoms) (some-low u.lists u.still.low.atoms) (non_variable-some n g) all.board
      (start-low n more) filled j (enough fewer) (omega arith) (rest j (omega arith)) still idle in
      omega (arith, last, one)
