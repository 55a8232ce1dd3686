-- What is known of a common run when an atom goes or stays, and how many rounds the run without it takes.
use mathlib.Core.Path.{◌≡◌, refl, sym, ◌∙◌, ap, subst}
use mathlib.Core.Bool.{Bool, true, false, false≢true}
use mathlib.Core.List.{List, [], ◌∷◌, ◌++◌, append_assoc}
use mathlib.Core.Option.{none}
use Prim.Native.Nat.{ℕ, zero, suc, ◌+◌, ◌*◌, ◌<◌, ◌≤◌}
use native.Mathlib.Omega.{arith}
use borrow.Author.Count.{below_more}
use lib.IntN.{ℤ}
use lib.ListN.{length, get_or, replicate}
use Rattle.rules.specs.Signs.{full}
use Rattle.rules.specs.Polynomial.{Atom, Board, which}
use Rattle.rules.specs.Rounds.{start, non_variable, enough, same_sets}
use Rattle.rules.specs.Rounds.{State as Standing}
use Rattle.rules.specs.Level.{kept_unless}
use Rattle.rules.specs.Count.{run_count}
use Rattle.removal_laws.specs.Wider.{Wider}
use Rattle.removal_laws.specs.Rounds.{LowBoard}
use Rattle.removal_laws.specs.Settled.{start-low}
use Rattle.turn_laws.specs.Some.{Some, all_there, not_there, some-both, some-append}
use Rattle.turn_laws.specs.Afresh.{afresh-start}
use Rattle.count_laws.specs.Boards.{turned_rounds}
use Rattle.count_laws.specs.Common.{same_start}
use Rattle.count_laws.specs.Onward.{after_rounds, RestOn, Moving, Resting, NoPair, rounds-stay-low, common-onward, common-rounds}
use Rattle.terms.specs.declared.Board.{Board as Sets}
use Rattle.terms.specs.View.{few, sets_of, length-numbers}
use Rattle.table.specs.Table.{Table, Forms, atoms_of, many}
use Rattle.round.specs.declared.State.{State}
use Rattle.round.specs.Views.{table_of, state_of}
use Rattle.rounds.specs.Bounded.{BoundedBy, bounded-settled}
use Rattle.common_run.specs.declared.run.Common.{Common}
use Rattle.common_run.specs.Marks.{marked_by, those_of, marked_slot, marked_of, other_than, apart_of}
use Rattle.common_run.specs.Boards.{board_at}
use Rattle.common_run.specs.Run.{after, RestsAt, SparesAt}
use Rattle.common_run.specs.Known.{CommonRun, Known, MarkOf, Without, Left, Lost}
use Rattle.common_run.proofs.Marking.{marked-is, is-marked, none-marked}
use Rattle.common_run.proofs.Above.{rounds-afresh}
use Rattle.common_run.proofs.Apart.{those-some, those-without}
use Rattle.common_run.proofs.Takings.{not-other}

-- ---- an atom goes or stays

kept-one : (kept : List Atom) (a : Atom) (later : List Atom) → kept_unless false a kept ++ later ≡ kept ++ (a ∷ later)
unfolding kept_unless
kept-one kept a later = append_assoc kept (a ∷ []) later

gone_one : (kept : List Atom) (a : Atom) (later : List Atom) → kept_unless true a kept ++ later ≡ kept ++ later
unfolding kept_unless
gone_one kept a later = refl

stays : (t : Table) (state : State) (c : Common) {out : Bool} → out ≡ false → (kept : List Atom) (a : Atom) (later : List Atom)
    → Known t state (kept ++ (a ∷ later)) c → Known t state (kept_unless out a kept ++ later) c
stays t state c e kept a later known = rw (e, kept-one kept a later) known

boards-same : (n : ℕ) (kept : List Atom) (a : Atom) (later : List Atom) → which n a.polynomial ≡ none
    → (start n (kept ++ (a ∷ later))).board ≡ (start n (kept ++ later)).board
unfolding start
boards-same n kept a later no-variable = same_start n kept a later no-variable (replicate n full)

fewer : (kept : List Atom) (a : Atom) (later : List Atom) → Some (kept ++ (a ∷ later)) (kept ++ later)
fewer kept a later = some-append (all_there kept) (not_there (all_there later))

module _ {out : Bool} (k : ℕ) (c : Common) where
  pub left-staying : out ≡ false → Left out k c c
  left-staying e = record { knows = λ t state kept a later forms between known. stays t state c e kept a later known }

  pub left-unmarked : k < 64 → out ≡ true → get_or c.marks.resting.first k 0 ≡ 0
      → Left out k c (record { known = c.known; ended = c.ended; whole = false; rounds = c.rounds; boards = c.boards; marks = c.marks })
  left-unmarked low e z = record {
    knows = λ t state kept a later forms between known is. rw (e, gone_one kept a later) (
        let run = known is in
        record {
          over = run.over;
          first = run.first;
          is_start = run.is_start;
          ran = record {
            some = run.ran.some;
            most = run.ran.most;
            moves = run.ran.moves;
            boards = run.ran.boards;
            rests = run.ran.rests;
            spares = run.ran.spares;
            last = run.ran.last;
          };
          afresh = run.afresh;
          some = some-both run.some (fewer kept a later);
          boards = run.boards ∙ boards-same t.variables kept a later between.no-variable;
          marked = λ round. those-without forms (marked_slot c.marks.resting.first round) k low (rw z (none-marked round)) kept a later
              between.is between.no-variable run.first.atoms.number run.first.atoms.set 0 (many run.first.atoms.count) (run.marked round);
          whole = λ w. absurd (false≢true w);
        });
  }

  pub left-unknown : {r : Common} → (r.known ≡ true → ⊥) → Left out k c r
  left-unknown h = record { knows = λ t state kept a later forms between known is. absurd (h is) }

module _ {out : Bool} (c : Common) where
  pub lost-staying : out ≡ false → Lost out c c
  lost-staying e = record { knows = λ t state kept a later known. stays t state c e kept a later known }

  pub lost-unknown : {r : Common} → (r.known ≡ true → ⊥) → Lost out c r
  lost-unknown h = record { knows = λ t state kept a later known is. absurd (h is) }

-- ---- the run without the atom

-- a mark that is of no round up to j is of none up to an earlier one
not_yet : (mark i j : ℕ) → marked_by mark j ≡ false → i ≤ j → marked_by mark i ≡ false
not_yet mark i j f h = by-test (marked_by mark i) refl
  where
    by-test : (b : Bool) → marked_by mark i ≡ b → b ≡ false
    by-test true e = let (some, most) = marked-is mark i e in absurd (false≢true (sym f ∙ is-marked mark j some (omega arith)))
    by-test false e = refl

-- the mark of a round is of none before it
pub mark-zero : {mark : ℕ} (round : ℕ) → mark ≡ 0 → marked_by mark round ≡ false
mark-zero round e = rw e (none-marked round)

pub mark-above : (mark round : ℕ) → round < mark → marked_by mark round ≡ false
mark-above mark round h = by-test (marked_by mark round) refl
  where
    by-test : (b : Bool) → marked_by mark round ≡ b → b ≡ false
    by-test true e = let (some, most) = marked-is mark round e in absurd (omega arith)
    by-test false e = refl

module _ {t : Table} (forms : Forms t) {c : Common} {k : ℕ} (low : k < 64) {state : State} {others : List Atom}
    (w : Without t state c k others) where
  abbrev n : ℕ
  n = t.variables

  abbrev run : CommonRun t state (w.kept ++ (w.atom ∷ w.later)) c
  run = w.run

  over-some : Some run.over others
  over-some = subst (λ (l : List Atom). Some run.over l) (sym w.are) (some-both run.some (fewer w.kept w.atom w.later))

  same-boards : (start n run.over).board ≡ (start n others).board
  same-boards = subst (λ (l : List Atom). (start n run.over).board ≡ (start n l).board) (sym w.are) (run.boards ∙ boards-same n w.kept w.atom w.later w.between.no-variable)

  -- the atoms of the run that pass a test that slot k fails are there without it
  there : (test : ℕ → Bool) → test k ≡ false → Some (non_variable n (w.kept ++ (w.atom ∷ w.later))) (those_of test t run.first.atoms)
      → Some (non_variable n others) (those_of test t run.first.atoms)
  there test fails f = subst (λ (l : List Atom). Some (non_variable n l) (those_of test t run.first.atoms)) (sym w.are)
      (those-without forms test k low fails w.kept w.atom w.later w.between.is w.between.no-variable
      run.first.atoms.number run.first.atoms.set 0 (many run.first.atoms.count) f)

  -- all atoms that remain are those of a whole run
  all-those : c.whole ≡ true → Some (non_variable n (w.kept ++ (w.atom ∷ w.later))) (apart_of k t run.first.atoms)
  unfolding start
  all-those whole =
      let a = run.first.atoms in
      subst (λ (l : List Atom). Some l (apart_of k t a)) (ap (λ (su : Standing). su.atoms) run.is_start ∙ ap (non_variable n) (run.whole whole))
      (those-some (other_than k) t a.number a.set 0 (many a.count))

  low-after : (i : ℕ) → LowBoard (after t run.first i)
  low-after i = subst (λ (su : Standing). LowBoard (after_rounds n su.atoms i su.board)) (sym run.is_start)
      (rounds-stay-low n (start n run.over).atoms (start n run.over).board (start-low n run.over) i)

  -- the cuts of a round rest on atoms that are there without the one of slot k, if its mark is of none up to it
  rest-on : {mark : ℕ} → MarkOf c k mark → (i : ℕ) → marked_by mark (suc i) ≡ false → RestsAt t run.first c.marks.resting.first i
      → SparesAt t run.first c.marks.needed.first i
      → RestOn n (atoms_of t run.first.atoms) (non_variable n others) (after t run.first i)
  rest-on {mark} is i e rests spares = by_whole c.whole refl
    where
      by_whole : (b : Bool) → c.whole ≡ b → RestOn n (atoms_of t run.first.atoms) (non_variable n others) (after t run.first i)
      by_whole true whole = record {
        these = apart_of k t run.first.atoms;
        there = there (other_than k) (not-other k) (all-those whole);
        rests = spares (low-after i) k low (rw (is.whole whole) at e);
      }
      by_whole false gone = record {
        these = marked_of c.marks.resting.first (suc i) t run.first.atoms;
        there = there (marked_slot c.marks.resting.first (suc i)) (rw (is.fewer gone) at e) (run.marked (suc i));
        rests = rests;
      }

  resting : {mark : ℕ} → MarkOf c k mark → (j : ℕ) → ((i : ℕ) → i < j → RestsAt t run.first c.marks.resting.first i)
      → ((i : ℕ) → i < j → SparesAt t run.first c.marks.needed.first i) → marked_by mark j ≡ false
      → Resting n (start n run.over).atoms (start n others).atoms j (start n run.over).board
  unfolding start
  resting {mark} is j rests spares e = subst (λ (su : Standing). Resting n su.atoms (non_variable n others) j su.board) run.is_start
      (λ i l. rest-on is i (not_yet mark (suc i) j e (omega arith)) (rests i l) (spares i l))

  moving : (j : ℕ) → j < c.rounds → Moving n (start n run.over).atoms j (start n run.over).board
  moving j h = subst (λ (su : Standing). Moving n su.atoms j su.board) run.is_start (λ i l. run.ran.moves i (omega arith))

  pub rounds-without : {mark : ℕ} → MarkOf c k mark → mark ≡ 0 → c.ended ≡ true → c.rounds ≡ run_count n others
  rounds-without is z ended = from c.rounds refl run.ran.some
    where
      from : (m : ℕ) → m ≡ c.rounds → 0 < m → c.rounds ≡ run_count n others
      from zero e h = absurd (omega arith)
      from (suc j) e h =
          let last = run.ran.last ended j e in
          let at : suc j ≡ j + 1 = omega arith in
          let rests = subst (λ (m : ℕ). (i : ℕ) → i < m → RestsAt t run.first c.marks.resting.first i) (sym at)
          (below_more (λ (i : ℕ). RestsAt t run.first c.marks.resting.first i) j
          (λ (i : ℕ) (l : i < j). run.ran.rests i (omega arith)) last.rests) in
          let spares = subst (λ (m : ℕ). (i : ℕ) → i < m → SparesAt t run.first c.marks.needed.first i) (sym at)
          (below_more (λ (i : ℕ). SparesAt t run.first c.marks.needed.first i) j
          (λ (i : ℕ) (l : i < j). run.ran.spares i (omega arith)) last.spares) in
          sym e ∙ sym (common-rounds n run.afresh.given run.afresh.settles run.over others run.afresh.some over-some same-boards j
          (resting is (suc j) rests spares (mark-zero (suc j) z)) (moving j (omega arith))
          (subst (λ (su : Standing). same_sets (after_rounds n su.atoms j su.board) (after_rounds n su.atoms (suc j) su.board) ≡ true) run.is_start last.still)
          (subst (λ (su : Standing). NoPair n su.atoms (after_rounds n su.atoms (suc j) su.board)) run.is_start last.no-pair))

  pub rounds-onward : {mark : ℕ} → MarkOf c k mark → (j : ℕ) → j < c.rounds → marked_by mark j ≡ false
      → run_count n others ≡ j + turned_rounds n (start n others).atoms (enough (start n others)) (board_at c.boards.sets j n)
  rounds-onward is j h e =
      common-onward n run.afresh.given run.afresh.settles run.over others run.afresh.some over-some same-boards j
      (resting is j (λ i l. run.ran.rests i (omega arith)) (λ i l. run.ran.spares i (omega arith)) e) (moving j h)
      ∙ ap (λ (b : Board). j + turned_rounds n (start n others).atoms (enough (start n others)) b)
      (ap (λ (su : Standing). after_rounds n su.atoms j su.board) (sym run.is_start) ∙ sym (run.ran.boards j h))

  -- the state that it goes on from is above the settled one
  pub bounded-onward : (begun : State) → state_of t begun ≡ start n others → (j : ℕ) → j < c.rounds → (b : Sets) → sets_of b ≡ board_at c.boards.sets j n
      → BoundedBy t (record { board = b; atoms = begun.atoms }) state.board
  bounded-onward begun is_start j h b e =
      let all = rounds-afresh (afresh-start n run.afresh.given run.afresh.settles run.afresh.some) j in
      let own = afresh-start n run.afresh.given run.afresh.settles (some-both run.afresh.some over-some) in
      let sets = e ∙ run.ran.boards j h ∙ ap (λ (su : Standing). after_rounds n su.atoms j su.board) run.is_start in
      bounded-settled state (record {
        still = own.still;
        boards = subst (λ (board : Board). Wider (sets_of state.board) board) (sym sets) all.boards;
        lists = subst (λ (su : Standing). Some (atoms_of t state.atoms) su.atoms) (sym is_start) own.lists;
      }) run.afresh.variables (subst LowBoard (sym sets) (rounds-stay-low n (start n run.over).atoms (start n run.over).board (start-low n run.over) j))

-- ---- its rounds, from the board that is read back

module _ (cs : List ℤ) (ms ts : List ℕ) {n m : ℕ} (same : m ≡ n) (others : List Atom) (begun : State) (own : begun.board.variables ≡ n)
    (is_start : state_of (table_of cs ms ts n) begun ≡ start n others) (b : Sets) (variables : b.variables ≡ n) where
  abbrev from : ℕ → State
  from v = record { board = b; atoms = begun.atoms }

  same-enough : enough (state_of (table_of cs ms ts n) (from n)) ≡ enough (start n others)
  unfolding enough
  same-enough =
      let lengths : length (sets_of b) ≡ length (sets_of begun.board) =
      length-numbers b.sets 0 (few b.variables) ∙ ap few (variables ∙ sym own) ∙ sym (length-numbers begun.board.sets 0 (few begun.board.variables)) in
      ap (λ (k : ℕ). 2 * (k + length (atoms_of (table_of cs ms ts n) begun.atoms)) + 1) lengths ∙ ap enough is_start

  pub turned-from : {k : ℕ}
      → k ≡ turned_rounds m (atoms_of (table_of cs ms ts m) begun.atoms) (enough (state_of (table_of cs ms ts m) (from m))) (sets_of b)
      → k ≡ turned_rounds n (start n others).atoms (enough (start n others)) (sets_of b)
  turned-from {k} e =
      subst (λ (v : ℕ). k ≡ turned_rounds v (atoms_of (table_of cs ms ts v) begun.atoms) (enough (state_of (table_of cs ms ts v) (from v))) (sets_of b)) same e
      ∙ ap (λ (f : ℕ). turned_rounds n (atoms_of (table_of cs ms ts n) begun.atoms) f (sets_of b)) same-enough
      ∙ ap (λ (su : Standing). turned_rounds n su.atoms (enough (start n others)) (sets_of b)) is_start
