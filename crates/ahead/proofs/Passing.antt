-- A pass after the turns of i variables: what they have left of the first board, and what is told of it.
-- `passing-first` is how it begins, `passing-next` a turn more, `passing-last` how it ends.
use mathlib.Core.Path.{◌≡◌, refl, sym, ◌∙◌, subst}
use mathlib.Core.Bool.{Bool, true, false}
use mathlib.Core.List.{List}
use Prim.Native.Nat.{ℕ, ◌+◌, ◌<◌, ◌≤◌}
use native.Mathlib.Decide.{dec_lt}
use native.Mathlib.Omega.{arith}
use lib.IntN.{ℤ}
use Rattle.rules.specs.Signs.{SignSet}
use Rattle.rules.specs.Polynomial.{Board as Sets}
use Rattle.terms.specs.declared.Board.{Board}
use Rattle.terms.specs.View.{sets_of}
use Rattle.table.specs.declared.Atoms.{Atoms}
use Rattle.table.specs.Table.{Table, atoms_of}
use Rattle.turn_laws.specs.AfterTurns.{AfterTurns, no_turn, one-more, after_both, Idle}
use Rattle.round.specs.Views.{table_of}
use Rattle.round.specs.Signing.{Ready}
use Rattle.ahead.specs.declared.Order.{Order}
use Rattle.ahead.specs.declared.Passed.{Passed}
use Rattle.ahead.specs.Ahead.{place_of, Stepped, Reached, After, Ahead}

-- ---- the places

pub place-below : (up : Bool) (n i : ℕ) → i < n → place_of up n i < n
unfolding place_of
place-below true n i h = h
place-below false n i h = omega arith

-- the place of the place of i is i
place-back : (up : Bool) (n i : ℕ) → i < n → place_of up n (place_of up n i) ≡ i
unfolding place_of
place-back true n i h = refl
place-back false n i h = omega arith

-- ---- a board's own number of variables is the table's

module _ (cs : List ℤ) (ms ts : List ℕ) {n m : ℕ} (same : n ≡ m) where
  pub stepped-over : {a : Atoms} {p : Passed} {i : ℕ} {r : Passed} {ss : List SignSet} → Stepped (table_of cs ms ts n) a p i r ss
      → Stepped (table_of cs ms ts m) a p i r ss
  stepped-over {a} {p} {i} {r} {ss} = subst (λ (k : ℕ). Stepped (table_of cs ms ts k) a p i r ss) same

  pub reached-over : (a : Atoms) (b r : Board) → Reached (table_of cs ms ts n) a b r → Reached (table_of cs ms ts m) a b r
  reached-over a b r = subst (λ (k : ℕ). Reached (table_of cs ms ts k) a b r) same

  pub after-over : {a : Atoms} {b r : Board} {ss : List SignSet} → After (table_of cs ms ts n) a b r ss → After (table_of cs ms ts m) a b r ss
  after-over {a} {b} {r} {ss} = subst (λ (k : ℕ). After (table_of cs ms ts k) a b r ss) same

  pub ahead-over : {a : Atoms} {b : Board} {r : Passed} {ss : List SignSet} → Ahead (table_of cs ms ts n) a b r ss → Ahead (table_of cs ms ts m) a b r ss
  ahead-over {a} {b} {r} {ss} = subst (λ (k : ℕ). Ahead (table_of cs ms ts k) a b r ss) same

-- ---- a pass

module _ (t : Table) (a : Atoms) (first : Board) (up : Bool) where
  pub record Passing (i : ℕ) (p : Passed) (ss : List SignSet) : Type 0 where
    pub variables : p.board.variables ≡ t.variables
    pub after : AfterTurns t.variables (atoms_of t a) (sets_of first) (sets_of p.board)
    pub ready : Ready t (sets_of p.board) a ss
    pub still : p.still ≡ true
        → (sets_of p.board ≡ sets_of first) × ((k : ℕ) → k < i → Idle t.variables (atoms_of t a) (sets_of first) (place_of up t.variables k))

  pub passing-first : {ss : List SignSet} (order : Order) → first.variables ≡ t.variables → Ready t (sets_of first) a ss
      → Passing 0 (record { board = first; still = true; order = order }) ss
  passing-first order same ready = record { variables = same; after = no_turn; ready = ready; still = λ e. (refl, λ k h. absurd (omega arith)) }

  pub passing-next : {i : ℕ} {p r : Passed} {ss zs : List SignSet} → Passing i p ss → i < t.variables
      → Stepped t a p (place_of up t.variables i) r zs → Passing (i + 1) r zs
  passing-next {i} {p} {r} passing low one =
      let n = t.variables in
      let j = place_of up n i in
      record {
        variables = one.variables;
        after = subst (AfterTurns n (atoms_of t a) (sets_of first)) (sym one.sets) (one-more j (place-below up n i low) passing.after);
        ready = one.ready;
        still = λ e.
            let (before, idle) = one.still e in
            let (same, idles) = passing.still before in
            (one.sets ∙ idle ∙ same, λ k h. by-place k h (subst (λ (b : Sets). Idle n (atoms_of t a) b j) same idle) idles (dec_lt k i));
      }
    where
      by-place : (k : ℕ) → k < i + 1 → Idle t.variables (atoms_of t a) (sets_of first) (place_of up t.variables i)
          → ((k : ℕ) → k < i → Idle t.variables (atoms_of t a) (sets_of first) (place_of up t.variables k)) → Dec (k < i)
          → Idle t.variables (atoms_of t a) (sets_of first) (place_of up t.variables k)
      by-place k h here before (yes l) = before k l
      by-place k h here before (no l) = let e : i ≡ k = omega arith in rw e at here

  pub passing-last : {i : ℕ} {p : Passed} {ss : List SignSet} → Passing i p ss → t.variables ≤ i → Ahead t a first p ss
  passing-last {i} {p} passing all = record {
    variables = passing.variables;
    after = passing.after;
    ready = passing.ready;
    idle = λ e j h.
        let n = t.variables in
        let (same, idles) = passing.still e in
        let idle = idles (place_of up n j) (omega (arith, place-below up n j h)) in
        subst (λ (b : Sets). Idle n (atoms_of t a) b j) (sym same) (rw (place-back up n j h) at idle);
  }

-- ---- turns after turns

pub reached-more : (t : Table) (a : Atoms) (first at r : Board) → Reached t a first at → Reached t a at r → Reached t a first r
reached-more t a first at r before one = record { variables = one.variables; after = after_both before.after one.after }

pub reached-after : {t : Table} {a : Atoms} {first at r : Board} {ss : List SignSet} → Reached t a first at → After t a at r ss → After t a first r ss
reached-after before one = record { variables = one.variables; after = after_both before.after one.after; ready = one.ready }

-- one turn more
pub after-step : {t : Table} {a : Atoms} {first : Board} {p r : Passed} {ss zs : List SignSet} {i : ℕ} → After t a first p.board ss → i < t.variables
    → Stepped t a p i r zs → After t a first r.board zs
after-step {t} {a} {first} {i} before low one = record {
  variables = one.variables;
  after = subst (AfterTurns t.variables (atoms_of t a) (sets_of first)) (sym one.sets) (one-more i low before.after);
  ready = one.ready;
}

-- a pass more, and the last one
pub after-pass : {t : Table} {a : Atoms} {first at : Board} {r : Passed} {ss zs : List SignSet} → After t a first at ss → Ahead t a at r zs
    → After t a first r.board zs
after-pass before one = record { variables = one.variables; after = after_both before.after one.after; ready = one.ready }

pub after_last : {t : Table} {a : Atoms} {first at : Board} {r : Passed} {ss zs : List SignSet} → After t a first at ss → Ahead t a at r zs
    → Ahead t a first r zs
after_last before one =
    record { variables = one.variables; after = after_both before.after one.after; ready = one.ready; idle = one.idle }
