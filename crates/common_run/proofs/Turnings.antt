-- A variable's turn with marks, and the turns of all variables: the cuts of those that are over rest on what is marked, and spare what is not needed,
-- if those of the turns that are left do.
use mathlib.Core.Path.{◌≡◌, refl, sym, ◌∙◌, ap, subst}
use mathlib.Core.Bool.{Bool, false}
use mathlib.Core.List.{List}
use Prim.Native.Nat.{ℕ, suc, ◌+◌, ◌-◌, ◌<◌, ◌≤◌}
use native.Mathlib.Nat.{sub-zero}
use native.Mathlib.Numerals.{add-one}
use native.Mathlib.Omega.{arith}
use lib.Dec.{lit<}
use lib.IntN.{ℤ}
use lib.ListN.{length, get_or, set}
use Rattle.rules.specs.Signs.{SignSet, full}
use Rattle.rules.specs.Polynomial.{Atom, Board, variable}
use Rattle.rules.specs.Rounds.{cut_by, turn, turns}
use Rattle.sign_laws.specs.Lists.{every-get_d}
use Rattle.sign_laws.specs.Sets.{PartOf}
use Rattle.ending_laws.specs.Cuts.{cut-floor}
use Rattle.removal_laws.specs.Rounds.{LowBoard}
use Rattle.turn_laws.specs.AfterTurns.{AfterTurns, no_turn, one-more, after-low, floor-later}
use Rattle.count_laws.specs.Common.{RestTurns}
use Rattle.terms.specs.declared.Board.{Board as Sets}
use Rattle.terms.specs.View.{few, sets_of}
use Rattle.table.specs.declared.Atoms.{Atoms}
use Rattle.table.specs.Table.{Table, atoms_of, many}
use Rattle.round.specs.Views.{table_of}
use Rattle.round.specs.Signing.{Ready}
use Rattle.round.specs.Boards.{set_at, turn-changes, turn-keeps, turns-step, turns-end}
use Rattle.common_run.specs.declared.marks.BothMarks.{BothMarks}
use Rattle.common_run.specs.Marks.{marked_by, those_of, marked_slot, marked_of, other_than, apart_of, Grows, GrowBoth}
use Rattle.common_run.specs.Turning.{CutMarking, Floored, SameCut, TurnMarking, TurnsMarking}
use Rattle.common_run.proofs.Marking.{grows-on, not-before, both-itself, both-on}
use Rattle.common_run.proofs.Takings.{those-leave}

-- ---- one turn

module _ (t : Table) (a : Atoms) (b : Sets) (same : b.variables ≡ t.variables) (i : ℕ) (low : i < few b.variables) {round : ℕ}
    {marks : BothMarks} {cut : SignSet} {more : BothMarks} (c : CutMarking t a (sets_of b) i (get_or b.sets i 0) round marks cut more) where
  own : get_or (sets_of b) i full ≡ get_or b.sets i 0
  own = set_at b.sets i (few b.variables) low

  same-cut : (these : List Atom) → cut_by (sets_of b) (variable t.variables i) these (get_or b.sets i 0) ≡ cut → SameCut t a (sets_of b) i these
  same-cut these e = rw own (e ∙ c.set)

  rests-so : (later : List ℕ) → Grows more.resting.first later → SameCut t a (sets_of b) i (marked_of later round t a)
  rests-so later g = same-cut (marked_of later round t a) (c.rests later g)

  spared-so : get_or (sets_of b) i full < 8 → (k : ℕ) → k < 64 → marked_by (get_or more.needed.first k 0) round ≡ false
      → SameCut t a (sets_of b) i (apart_of k t a)
  spared-so h k less e = same-cut (apart_of k t a) (c.spared (rw own at h) k less e)

  pub turn-idle : {ss : List SignSet} → cut ≡ get_or b.sets i 0 → Ready t (sets_of b) a ss → TurnMarking t a (sets_of b) i round marks b more ss
  turn-idle e ready = record {
    turned = record { variables = same; sets = turn-keeps t.variables b.sets i (few b.variables) low (atoms_of t a) c.set e; ready = ready };
    grows = c.grows;
    rests = rests-so;
    spared = spared-so;
  }

  pub turn-cuts : {ss : List SignSet} → i < length b.sets
      → let r : Sets = record { variables = b.variables; sets = set b.sets i cut } in Ready t (sets_of r) a ss
      → TurnMarking t a (sets_of b) i round marks r more ss
  turn-cuts within ready = record {
    turned = record { variables = same; sets = turn-changes t.variables b.sets i (few b.variables) low (atoms_of t a) c.set within; ready = ready };
    grows = c.grows;
    rests = rests-so;
    spared = spared-so;
  }

-- a variable that has the floor's set
pub turn-floored : {t : Table} {a : Atoms} (b : Sets) {floor : Sets} → Floored t a b floor → b.variables ≡ t.variables → (i : ℕ) → i < t.variables
    → i < few t.variables → (round : ℕ) (marks : BothMarks) {ss : List SignSet} → get_or b.sets i 0 ≡ get_or floor.sets i 0
    → Ready t (sets_of b) a ss
    → TurnMarking t a (sets_of b) i round marks b marks ss
turn-floored {t} {a} b {floor} f same i h low round marks e ready =
    let own = set_at b.sets i (few b.variables) (rw same low) in
    let its = set_at floor.sets i (few floor.variables) (rw f.variables low) in
    let is = own ∙ e ∙ sym its in
    let s = get_or (sets_of b) i full in
    let p = variable t.variables i in
    let small : s < 8 = rw is (f.below.low i h) in
    let leaves : cut_by (sets_of b) p (atoms_of t a) s ≡ s = cut-floor (sets_of b) p (atoms_of t a) s small
    (subst (λ (x : SignSet). PartOf x (cut_by (sets_of b) p (atoms_of t a) s)) (sym is) (f.below.below no_turn i h)) in
    let same-cut : (test : ℕ → Bool) → SameCut t a (sets_of b) i (those_of test t a) =
    λ test. those-leave (sets_of b) p t a.number a.set test (many a.count) small leaves ∙ sym leaves in
    record {
      turned = record {
        variables = same;
        sets = turn-keeps t.variables b.sets i (few b.variables) (rw same low) (atoms_of t a) (sym (rw own at leaves)) refl;
        ready = ready;
      };
      grows = both-itself marks;
      rests = λ later g. same-cut (marked_slot later round);
      spared = λ l k less unmarked. same-cut (other_than k);
    }

-- the floor is below what turns leave, too
pub floored-later : {t : Table} {a : Atoms} {first b floor : Sets} → Floored t a first floor
    → AfterTurns t.variables (atoms_of t a) (sets_of first) (sets_of b) → Floored t a b floor
floored-later f after = record { variables = f.variables; below = floor-later after f.below }

pub floored-over : (cs : List ℤ) (ms ts : List ℕ) {n m : ℕ} → n ≡ m → {a : Atoms} {b floor : Sets} → Floored (table_of cs ms ts n) a b floor
    → Floored (table_of cs ms ts m) a b floor
floored-over cs ms ts same {a} {b} {floor} = subst (λ (k : ℕ). Floored (table_of cs ms ts k) a b floor) same

-- a board's own number of variables is the table's
pub turn-over : (cs : List ℤ) (ms ts : List ℕ) {n m : ℕ} → n ≡ m
    → {a : Atoms} {board : Board} {i round : ℕ} {marks : BothMarks} {b : Sets} {more : BothMarks} {ss : List SignSet}
    → TurnMarking (table_of cs ms ts n) a board i round marks b more ss → TurnMarking (table_of cs ms ts m) a board i round marks b more ss
turn-over cs ms ts same {a} {board} {i} {round} {marks} {b} {more} {ss} = subst (λ (k : ℕ). TurnMarking (table_of cs ms ts k) a board i round marks b more ss) same

-- ---- the turns that are left

rest-step : (n : ℕ) (all these : List Atom) (board : Board) (i m : ℕ) → i < m
    → cut_by board (variable n i) these (get_or board i full) ≡ cut_by board (variable n i) all (get_or board i full)
    → RestTurns n all these (turn n all board i) (i + 1) (m - (i + 1)) → RestTurns n all these board i (m - i)
unfolding RestTurns
rest-step n all these board i m h e r = let count : m - i ≡ suc (m - suc i) = omega arith in rw count (e, rw (add-one i) at r)

rest_end : (n : ℕ) (all these : List Atom) (board : Board) (i m : ℕ) → m ≤ i → RestTurns n all these board i (m - i)
unfolding RestTurns
rest_end n all these board i m h = let count : m - i ≡ 0 = omega arith in rw count tt

pub record Turnings (t : Table) (a : Atoms) (first : Board) (round : ℕ) (marks : BothMarks) (i : ℕ) (b : Sets) (more : BothMarks)
    (ss : List SignSet) : Type 0 where
  pub variables : b.variables ≡ t.variables
  pub ready : Ready t (sets_of b) a ss
  pub left : turns t.variables (atoms_of t a) (sets_of b) i (t.variables - i) ≡ turns t.variables (atoms_of t a) first 0 t.variables
  pub grows : GrowBoth marks more
  pub after : AfterTurns t.variables (atoms_of t a) first (sets_of b)
  pub rests : (later : List ℕ) → Grows more.resting.first later
      → RestTurns t.variables (atoms_of t a) (marked_of later round t a) (sets_of b) i (t.variables - i)
      → RestTurns t.variables (atoms_of t a) (marked_of later round t a) first 0 t.variables
  pub spared : LowBoard first → (k : ℕ) → k < 64 → marked_by (get_or more.needed.first k 0) round ≡ false
      → RestTurns t.variables (atoms_of t a) (apart_of k t a) (sets_of b) i (t.variables - i)
      → RestTurns t.variables (atoms_of t a) (apart_of k t a) first 0 t.variables

pub turnings-first : {t : Table} {a : Atoms} (b : Sets) (round : ℕ) (marks : BothMarks) {ss : List SignSet} → b.variables ≡ t.variables
    → Ready t (sets_of b) a ss
    → Turnings t a (sets_of b) round marks 0 b marks ss
turnings-first b round marks v r = record {
  variables = v;
  ready = r;
  left = rw sub-zero;
  grows = both-itself marks;
  after = no_turn;
  rests = λ later g rest. rw sub-zero at rest;
  spared = λ h k less e rest. rw sub-zero at rest;
}

pub turnings-next : {t : Table} {a : Atoms} {first : Board} {round : ℕ} {marks : BothMarks} {i : ℕ} {b r : Sets} {more next : BothMarks}
    {ss zs : List SignSet} → Turnings t a first round marks i b more ss → i < t.variables → TurnMarking t a (sets_of b) i round more r next zs
    → Turnings t a first round marks (i + 1) r next zs
turnings-next {t} {a} {first} {round} {i = i} {b = b} {r = r} s h m =
    let n = t.variables in
    let all = atoms_of t a in
    record {
      variables = m.turned.variables;
      ready = m.turned.ready;
      left = ap (λ (x : Board). turns n all x (i + 1) (n - (i + 1))) m.turned.sets ∙ sym (turns-step n all (sets_of b) i n h) ∙ s.left;
      grows = both-on s.grows m.grows;
      after = subst (AfterTurns n all first) (sym m.turned.sets) (one-more i h s.after);
      rests = λ later g rest. s.rests later (grows-on m.grows.resting g) (on (marked_of later round t a) (m.rests later g) rest);
      spared = λ l k less e rest. s.spared l k less (not-before m.grows.needed k round e)
          (on (apart_of k t a) (m.spared (every-get_d i full (lit< tt) (after-low l s.after)) k less e) rest);
    }
  where
    on : (these : List Atom) → SameCut t a (sets_of b) i these
        → RestTurns t.variables (atoms_of t a) these (sets_of r) (i + 1) (t.variables - (i + 1))
        → RestTurns t.variables (atoms_of t a) these (sets_of b) i (t.variables - i)
    on these e rest = rest-step t.variables (atoms_of t a) these (sets_of b) i t.variables h e
        (subst (λ (x : Board). RestTurns t.variables (atoms_of t a) these x (i + 1) (t.variables - (i + 1))) m.turned.sets rest)

pub turnings-last : {t : Table} {a : Atoms} {first : Board} {round : ℕ} {marks : BothMarks} {i : ℕ} {b : Sets} {more : BothMarks} {ss : List SignSet}
    → Turnings t a first round marks i b more ss → t.variables ≤ i → TurnsMarking t a first round marks b more ss
turnings-last {t} {a} {round = round} {i = i} {b = b} s h =
    let n = t.variables in
    let all = atoms_of t a in
    record {
      turned = record { variables = s.variables; sets = sym (turns-end n all (sets_of b) i n h) ∙ s.left; ready = s.ready };
      grows = s.grows;
      rests = λ later g. s.rests later g (rest_end n all (marked_of later round t a) (sets_of b) i n h);
      spared = λ l k less e. s.spared l k less e (rest_end n all (apart_of k t a) (sets_of b) i n h);
    }
