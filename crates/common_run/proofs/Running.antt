-- The rounds of the common run, one after the other: their boards, that the cuts of each rest on what is marked by it, whatever is marked later, and
-- that they spare what is not marked as needed.
use mathlib.Core.Path.{◌≡◌, refl, sym, ◌∙◌, ap, subst}
use mathlib.Core.Bool.{Bool, true, false, false≢true}
use mathlib.Core.List.{List}
use Prim.Native.Nat.{ℕ, suc, ◌+◌, ◌<◌}
use native.Mathlib.Numerals.{add-one}
use native.Mathlib.Omega.{arith}
use borrow.Author.Count.{below_more}
use lib.IntN.{ℤ}
use lib.ListN.{get_or}
use Rattle.rules.specs.Signs.{SignSet}
use Rattle.rules.specs.Polynomial.{Board}
use Rattle.rules.specs.Rounds.{turns, same_sets}
use Rattle.removal_laws.specs.Rounds.{LowBoard}
use Rattle.count_laws.specs.Common.{RestTurns}
use Rattle.count_laws.specs.Onward.{after_rounds, NoPair}
use Rattle.terms.specs.declared.Board.{Board as Sets}
use Rattle.terms.specs.View.{few, numbers_from, sets_of}
use Rattle.table.specs.declared.Atoms.{Atoms}
use Rattle.table.specs.Table.{Table, atoms_of}
use Rattle.round.specs.declared.State.{State}
use Rattle.round.specs.Views.{table_of}
use Rattle.round.specs.Signing.{Ready}
use Rattle.common_run.specs.declared.marks.BothMarks.{BothMarks}
use Rattle.common_run.specs.Marks.{marked_by, marked_of, apart_of, Grows}
use Rattle.common_run.specs.Turning.{TurnsMarking}
use Rattle.common_run.specs.Boards.{board_at, StoredAt}
use Rattle.common_run.specs.Run.{after, RestsAt, SparesAt, CommonOf}
use Rattle.common_run.proofs.Marking.{grows-itself, grows-on, not-before}
use Rattle.common_run.proofs.Storing.{board-here, board-before}

-- a board's own number of variables is the table's
pub turns-over : (cs : List ℤ) (ms ts : List ℕ) {n m : ℕ} → n ≡ m
    → {a : Atoms} {board : Board} {round : ℕ} {marks : BothMarks} {b : Sets} {more : BothMarks} {ss : List SignSet}
    → TurnsMarking (table_of cs ms ts n) a board round marks b more ss → TurnsMarking (table_of cs ms ts m) a board round marks b more ss
turns-over cs ms ts same {a} {board} {round} {marks} {b} {more} {ss} = subst (λ (k : ℕ). TurnsMarking (table_of cs ms ts k) a board round marks b more ss) same

-- the sets of two boards, compared by place
pub same-boards : (b c : Sets) {k : ℕ} {r : Bool} → c.variables ≡ b.variables → k ≡ few b.variables
    → r ≡ same_sets (numbers_from b.sets 0 k) (numbers_from c.sets 0 k) → r ≡ same_sets (sets_of b) (sets_of c)
same-boards b c v e h = rw v (rw e at h)

pub record Running (t : Table) (st : State) (round : ℕ) (stood : Sets) (boards : List ℕ) (marks : BothMarks) (ss : List SignSet) : Type 0 where
  pub variables : stood.variables ≡ t.variables
  pub ready : Ready t (sets_of stood) st.atoms ss
  pub sets : sets_of stood ≡ after t st round
  pub moves : (i : ℕ) → i < round → same_sets (after t st i) (after t st (suc i)) ≡ false
  pub stored : (i : ℕ) → i < round → board_at boards i t.variables ≡ after t st i
  pub rests : (i : ℕ) → i < round → (later : List ℕ) → Grows marks.resting.first later → RestsAt t st later i
  pub spares : (i : ℕ) → i < round → SparesAt t st marks.needed.first i

pub running-first : {t : Table} (st : State) (boards : List ℕ) (marks : BothMarks) {ss : List SignSet} → st.board.variables ≡ t.variables
    → Ready t (sets_of st.board) st.atoms ss
    → Running t st 0 st.board boards marks ss
unfolding after_rounds
running-first st boards marks v r = record {
  variables = v;
  ready = r;
  sets = refl;
  moves = λ i l. absurd (omega arith);
  stored = λ i l. absurd (omega arith);
  rests = λ i l. absurd (omega arith);
  spares = λ i l. absurd (omega arith);
}

module _ {t : Table} {st : State} {round : ℕ} {stood : Sets} {boards more : List ℕ} {marks : BothMarks} {ss : List SignSet}
    (r : Running t st round stood boards marks ss) (s : StoredAt boards stood.sets round more) where
  boards-so : (i : ℕ) → i < round + 1 → board_at more i t.variables ≡ after t st i
  boards-so =
      below_more (λ (i : ℕ). board_at more i t.variables ≡ after t st i) round (λ (i : ℕ) (l : i < round). board-before s t.variables i l ∙ r.stored i l)
      (board-here s t.variables ∙ (rw r.variables at r.sets))

  -- left before the next round
  pub running-left : round < 40
      → CommonOf t st (record { known = true; ended = false; whole = true; rounds = round + 1; boards = record { sets = more }; marks = marks })
  running-left low = record {
    some = omega arith;
    most = omega arith;
    moves = λ i l. r.moves i (omega arith);
    boards = boards-so;
    rests = λ i l. r.rests i (omega arith) marks.resting.first (grows-itself marks.resting.first);
    spares = λ i l. r.spares i (omega arith);
    last = λ e. absurd (false≢true e);
  }

module _ {t : Table} {st : State} {round : ℕ} {stood next : Sets} {boards more : List ℕ} {marks later-marks : BothMarks} {ss zs : List SignSet}
    (r : Running t st round stood boards marks ss) (s : StoredAt boards stood.sets round more)
    (m : TurnsMarking t st.atoms (sets_of stood) (round + 1) marks next later-marks zs) where
  pub next-sets : sets_of next ≡ after t st (suc round)
  unfolding after_rounds
  next-sets = m.turned.sets ∙ ap (λ (b : Board). turns t.variables (atoms_of t st.atoms) b 0 t.variables) r.sets

  same-so : {b : Bool} → same_sets (sets_of stood) (sets_of next) ≡ b → same_sets (after t st round) (after t st (suc round)) ≡ b
  same-so e = rw (sym r.sets, sym next-sets) e

  rests-so : (i : ℕ) → i < round + 1 → (later : List ℕ) → Grows later-marks.resting.first later → RestsAt t st later i
  rests-so =
      below_more (λ (i : ℕ). (later : List ℕ) → Grows later-marks.resting.first later → RestsAt t st later i) round
      (λ (i : ℕ) (l : i < round) (later : List ℕ) (g : Grows later-marks.resting.first later).
      r.rests i l later (grows-on m.grows.resting g))
      (λ (later : List ℕ) (g : Grows later-marks.resting.first later).
      subst (λ (b : Board). RestTurns t.variables (atoms_of t st.atoms) (marked_of later (suc round) t st.atoms) b 0 t.variables) r.sets
      (rw (add-one round) at (m.rests later g)))

  spares-so : (i : ℕ) → i < round + 1 → SparesAt t st later-marks.needed.first i
  spares-so =
      below_more (λ (i : ℕ). SparesAt t st later-marks.needed.first i) round
      (λ (i : ℕ) (l : i < round) (low : LowBoard (after t st i)) (k : ℕ) (less : k < 64)
      (e : marked_by (get_or later-marks.needed.first k 0) (suc i) ≡ false). r.spares i l low k less (not-before m.grows.needed k (suc i) e))
      (subst (λ (b : Board). LowBoard b → (k : ℕ) → k < 64 → marked_by (get_or later-marks.needed.first k 0) (suc round) ≡ false
      → RestTurns t.variables (atoms_of t st.atoms) (apart_of k t st.atoms) b 0 t.variables) r.sets
      (rw (add-one round) at m.spared))

  pub running-on : same_sets (sets_of stood) (sets_of next) ≡ false → Running t st (round + 1) next more later-marks zs
  running-on e = record {
    variables = m.turned.variables;
    ready = m.turned.ready;
    sets = rw (add-one round) next-sets;
    moves = below_more (λ (i : ℕ). same_sets (after t st i) (after t st (suc i)) ≡ false) round r.moves (same-so e);
    stored = boards-so r s;
    rests = rests-so;
    spares = spares-so;
  }

  -- the last round, if no pair finds anything
  pub running-last : (ended : Bool) → round < 40 → same_sets (sets_of stood) (sets_of next) ≡ true
      → (ended ≡ true → NoPair t.variables (atoms_of t st.atoms) (sets_of next))
      → CommonOf t st (record { known = true; ended = ended; whole = true; rounds = round + 1; boards = record { sets = more }; marks = later-marks })
  running-last ended low e idle = record {
    some = omega arith;
    most = omega arith;
    moves = λ i l. r.moves i (omega arith);
    boards = boards-so r s;
    rests = λ i l. rests-so i (omega arith) later-marks.resting.first (grows-itself later-marks.resting.first);
    spares = λ i l. spares-so i (omega arith);
    last = λ so i l. let at : i ≡ round = omega arith in rw at (record {
      still = same-so e;
      rests = rests-so round (omega arith) later-marks.resting.first (grows-itself later-marks.resting.first);
      spares = spares-so round (omega arith);
      no-pair = rw (sym next-sets) (idle so);
    });
  }
