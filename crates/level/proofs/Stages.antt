-- Steps 2 to 6: one turn of them, the turns of the way back to step 2, and what step 1 hands over.
use mathlib.Core.Path.{◌≡◌, refl, sym, ◌∙◌, ap}
use mathlib.Core.Bool.{Bool, true, false}
use mathlib.Core.List.{List, [], ◌++◌, append-nil}
use Prim.Native.Nat.{ℕ, ◌+◌, ◌-◌, ◌<◌, ◌≤◌, max}
use native.Mathlib.Omega.{arith}
use lib.ListN.{length, take, drop, length-append}
use Rattle.rules.specs.Rounds.{State, settled, run}
use Rattle.rules.specs.Level.{Placed, plains, Formula, dual, or_parts, parts, never, Walk, still, sweep, after_sweep, after_rounds, after_tidy, settled_down, after_gather}
use Rattle.rules.specs.Count.{run_count, sweep_count, outcome_count, tidy_count, settled_count, gathered_count}
use Rattle.ending_laws.specs.Turns.{no-turn-missing}
use Rattle.ending_laws.specs.Counts.{no-count-missing}
use Rattle.level_laws.specs.Carried.{carried-plain}
use Rattle.removal_laws.specs.Apart.{tidy-apart}
use Rattle.table.specs.Table.{Table}
use Rattle.tape.specs.declared.rows.Row.{Row}
use Rattle.tape.specs.declared.walks.Level.{Level}
use Rattle.tape.specs.declared.walks.Walked.{Walked}
use Rattle.steps.specs.declared.carrying.Carrying.{Carrying}
use Rattle.level.specs.declared.settling.Stage.{Stage}
use Rattle.tape.specs.Row.{row_of, Lists}
use Rattle.tape.specs.Token.{atom_of, atoms_in}
use Rattle.tape.specs.Tape.{Children, none, child, laid, ors_in}
use Rattle.tape.specs.Walked.{walk_of, Stands, one_if, room}
use Rattle.steps.specs.Tidied.{tidied_of, Tidies}
use Rattle.round.specs.Views.{state_of}
use Rattle.steps.specs.Carried.{Carries, LeftBy, Remains}
use Rattle.steps.specs.Swept.{SweepIs}
use Rattle.level.specs.Settled.{NodeIsFalse, result_of, count_of, StageIs, Ready, level_of, SettleIs, due, Gathered, FinishIs}
use Rattle.tape.specs.Listing.{whole}
use Rattle.tape.specs.Storing.{counted}
use Rattle.tape.specs.Entering.{map-append}

-- the node is false, in two lists
abbrev pub FalseIn : List ℕ → List ℕ → ℕ → Stage → Type 0
FalseIn atoms ors largest r = NodeIsFalse (row_of atoms r.atoms) (row_of ors r.ors) largest r

-- all of a row, laid down after what a list has
pub laid-down : {out : List ℕ} (n k : ℕ) (l m : List ℕ) → Lists (row_of out (n + (k - 0))) (l ++ take (k - 0) (drop 0 m)) → k ≡ length m
    → Lists (row_of out (n + k)) (l ++ m)
laid-down n k l m w e = counted (rw (whole m k e) at w) (omega arith)

-- the same at the front of a list
pub laid-first : {out : List ℕ} (k : ℕ) (m : List ℕ) → Lists (row_of out (0 + (k - 0))) (take (k - 0) (drop 0 m)) → k ≡ length m → Lists (row_of out k) m
laid-first k m w e = counted (rw (whole m k e) at w) (omega arith)

never-parts : (t : Table) → parts (atoms_in t []) (ors_in t (child [] none none)) ≡ never
unfolding parts or_parts ors_in never dual
never-parts t = refl

-- no child, no walk
no-sweep : (n : ℕ) (state : State) (t : Table) (children : Children) → length (laid children) ≡ 0 → sweep n state (ors_in t children) ≡ still []
unfolding sweep ors_in
no-sweep n state t none e = refl
no-sweep n state t (child l own later) e = absurd (omega arith)

-- ---- what step 3 leaves is what step 5 asks

pub left_by : {t : Table} {l : List ℕ} {kept : Row} {b : Bool} (f : Tidies t l kept b) → b ≡ false → {largest : ℕ} {cut : Row} {c : Carrying} (g : Carries t f.list largest cut c)
    → c.contradiction ≡ false → LeftBy t c.state cut
unfolding tidied_of
left_by {t} {l} f e {c = c} g z =
    let settles : run t.variables (plains (atoms_in t f.list)) ≡ settled (state_of t c.state) = rw z at g.is in
    record {
      list = g.list;
      lists = g.lists;
      carries = record {
        given = plains (atoms_in t f.list);
        settles = settles;
        distinct = tidy-apart (atoms_in t l) (rw e at f.is);
        variables = g.variables;
        atoms = ap plains (sym (g.carries z)) ∙ carried-plain t.variables (atoms_in t f.list) (state_of t c.state) settles;
      };
    }

-- ---- one turn

module _ {t : Table} {l : List ℕ} (children : Children) where
  false-stage : {atoms ors : List ℕ} {largest so_far : ℕ} {r : Stage} → FalseIn atoms ors so_far r → never ≡ settled_down t.variables (atoms_in t l) (ors_in t children)
      → so_far ≡ max largest (settled_count t.variables (atoms_in t l) (ors_in t children)) → StageIs t l children largest 1 atoms ors r
  unfolding result_of count_of
  false-stage f e counted = record {
    list = [];
    left = child [] none none;
    lists = f.lists;
    lies = f.lies;
    is = rw f.ends (never-parts t ∙ e);
    counts = rw f.ends (omega (arith, counted, f.counts));
    small = λ h. absurd (omega arith);
    tight = λ z. let y : ◌≡◌ {A = ℕ} 0 1 = cc f.ends in absurd (omega arith);
  }

  module _ {kept : Row} {b : Bool} (f : Tidies t l kept b) where
    -- step 2
    pub turn-broken : b ≡ true → {atoms ors : List ℕ} {largest : ℕ} {r : Stage} → FalseIn atoms ors largest r → StageIs t l children largest 1 atoms ors r
    unfolding tidied_of after_tidy tidy_count
    turn-broken e n =
        let none : settled_count t.variables (atoms_in t l) (ors_in t children) ≡ 0 =
        no-count-missing t.variables (atoms_in t l) (ors_in t children) ∙ rw (f.is, e) in
        false-stage n (sym (no-turn-missing t.variables (atoms_in t l) (ors_in t children) ∙ rw (f.is, e))) (omega (arith, none))

    after-tidy : b ≡ false
        → after_rounds t.variables (atoms_in t f.list) (run t.variables (plains (atoms_in t f.list))) (ors_in t children) (settled_down t.variables)
        ≡ settled_down t.variables (atoms_in t l) (ors_in t children)
    unfolding tidied_of after_tidy
    after-tidy e = sym (no-turn-missing t.variables (atoms_in t l) (ors_in t children) ∙ rw (f.is, e))

    count-tidy : b ≡ false
        → max (run_count t.variables (plains (atoms_in t f.list)))
        (outcome_count t.variables (atoms_in t f.list) (run t.variables (plains (atoms_in t f.list))) (ors_in t children) (settled_count t.variables))
        ≡ settled_count t.variables (atoms_in t l) (ors_in t children)
    unfolding tidied_of tidy_count
    count-tidy e = sym (no-count-missing t.variables (atoms_in t l) (ors_in t children) ∙ rw (f.is, e))

    module _ (e : b ≡ false) {largest : ℕ} {cut : Row} {c : Carrying} (g : Carries t f.list largest cut c) where
      -- step 3
      pub turn-contradiction : c.contradiction ≡ true → {atoms ors : List ℕ} {r : Stage} → FalseIn atoms ors c.rounds r → StageIs t l children largest 1 atoms ors r
      unfolding after_rounds outcome_count
      turn-contradiction z n = false-stage n (rw (g.is, z) at (after-tidy e)) (omega (arith, g.counts, rw (g.is, z) at (count-tidy e)))

      after-rounds : c.contradiction ≡ false
          → after_sweep t.variables (atoms_in t g.list) (sweep t.variables (state_of t c.state) (ors_in t children)) (settled_down t.variables)
          ≡ settled_down t.variables (atoms_in t l) (ors_in t children)
      unfolding after_rounds
      after-rounds z = rw (g.is, z, g.carries z) at (after-tidy e)

      count-rounds : c.contradiction ≡ false
          → max c.rounds (sweep_count t.variables (atoms_in t g.list) (sweep t.variables (state_of t c.state) (ors_in t children)) (settled_count t.variables))
          ≡ max largest (settled_count t.variables (atoms_in t l) (ors_in t children))
      unfolding outcome_count
      count-rounds z = omega (arith, g.counts, rw (g.is, z, g.carries z) at (count-tidy e))

      -- step 5 where there is no child for step 4
      pub turn_alone : c.contradiction ≡ false → length (laid children) ≡ 0 → {atoms ors : List ℕ} {n k : ℕ} → Remains t g.list c.rounds (row_of atoms n) k
          → StageIs t l children largest 1 atoms ors (record { over = true; atoms = n; ors = 0; rounds = k })
      unfolding after_sweep sweep_count result_of count_of ors_in
      turn_alone z e p = record {
        list = p.list;
        left = none;
        lists = p.lists;
        lies = record { is = refl; size = refl };
        is = rw (sym p.is) (rw (no-sweep t.variables (state_of t c.state) t children e) at (after-rounds z));
        counts = omega (arith, p.counts, rw (no-sweep t.variables (state_of t c.state) t children e) at (count-rounds z));
        small = λ q. omega (arith, p.small, g.same, f.small);
        tight = λ q. let y : ◌≡◌ {A = ℕ} 0 1 = cc in absurd (omega arith);
      }

      module _ (z : c.contradiction ≡ false) {w : Walked} (h : SweepIs t c.state children w) where
        -- step 4
        pub turn-falls : w.falls ≡ true → {atoms ors : List ℕ} {r : Stage} → FalseIn atoms ors c.rounds r → StageIs t l children largest 1 atoms ors r
        unfolding walk_of after_sweep sweep_count
        turn-falls x n = false-stage n (rw (sym h.stands.is, x) at (after-rounds z)) (omega (arith, rw (sym h.stands.is, x) at (count-rounds z)))

        module _ (x : w.falls ≡ false) {ors : List ℕ} {m : ℕ} (v : Lists (row_of ors m) (laid h.stands.children)) where
          pub turn_moved : w.moved ≡ true → {atoms : List ℕ} {n : ℕ} → Lists (row_of atoms n) (g.list ++ h.stands.new)
              → StageIs t l children largest 1 atoms ors (record { over = false; atoms = n; ors = m; rounds = c.rounds })
          unfolding walk_of after_sweep sweep_count result_of count_of
          turn_moved y p =
              let one : one_if w.moved ≡ 1 = rw y in
              let sizes : length (g.list ++ h.stands.new) + length (laid h.stands.children) + 1 ≤ length l + length (laid children) =
              omega (arith, length-append g.list h.stands.new, h.small, g.same, f.small, h.stands.lists.size, h.stands.lies.size) in
              record {
                list = g.list ++ h.stands.new;
                left = h.stands.children;
                lists = p;
                lies = v;
                is = rw (map-append (atom_of t) g.list h.stands.new) (rw (sym h.stands.is, x, y) at (after-rounds z));
                counts = rw (map-append (atom_of t) g.list h.stands.new) (rw (sym h.stands.is, x, y) at (count-rounds z));
                small = λ q. omega (arith, sizes);
                tight = λ q. sizes;
              }

          -- step 5
          pub turn-over : w.moved ≡ false → {atoms : List ℕ} {n k : ℕ} → Remains t g.list c.rounds (row_of atoms n) k
              → StageIs t l children largest 1 atoms ors (record { over = true; atoms = n; ors = m; rounds = k })
          unfolding walk_of after_sweep sweep_count result_of count_of
          turn-over y p = record {
            list = p.list;
            left = h.stands.children;
            lists = p.lists;
            lies = v;
            is = rw (sym p.is) (rw (sym h.stands.is, x, y) at (after-rounds z));
            counts = omega (arith, p.counts, rw (sym h.stands.is, x, y) at (count-rounds z));
            small = λ q. omega (arith, p.small, h.small, g.same, f.small, h.stands.lists.size, h.stands.lies.size);
            tight = λ q. let z : ◌≡◌ {A = ℕ} 0 1 = cc in absurd (omega arith);
          }

-- ---- the turns

pub stage-start : (t : Table) (l : List ℕ) (children : Children) {atoms ors : List ℕ} {n m largest : ℕ} → Lists (row_of atoms n) l → Lists (row_of ors m) (laid children)
    → StageIs t l children largest 0 atoms ors (record { over = false; atoms = n; ors = m; rounds = largest })
unfolding result_of count_of
stage-start t l children h k = record { list = l; left = children; lists = h; lies = k; is = refl; counts = refl; small = λ q. omega arith; tight = λ z. omega arith }

module _ {t : Table} {l : List ℕ} {children : Children} {largest : ℕ} {atoms ors : List ℕ} {s : Stage} (f : StageIs t l children largest 0 atoms ors s) where
  pub stage-ready : s.over ≡ false → length l + length (laid children) ≤ 256 → length atoms ≡ 256 → length ors ≡ 256 → Ready atoms s.atoms ors s.ors
  stage-ready e h long wide = record {
    list = f.list;
    children = f.left;
    lists = f.lists;
    lies = f.lies;
    fits = omega (arith, f.tight e, f.lists.size, f.lies.size);
    long = long;
    wide = wide;
  }

  pub stage-end : s.over ≡ true → SettleIs t l children largest (level_of atoms ors s) s.rounds
  unfolding result_of count_of
  stage-end e = record {
    counts = omega (arith, rw e at f.counts);
    shows = record { list = f.list; children = f.left; lists = f.lists; lies = f.lies; is = rw e at f.is };
    small = λ h. omega (arith, f.small (omega (arith, f.lists.size, f.lies.size)), f.lists.size, f.lies.size);
  }

  module _ (e : s.over ≡ false) {atoms' ors' : List ℕ} {r : Stage} (g : StageIs t f.list f.left s.rounds 1 atoms' ors' r) where
    pub stage-turn : StageIs t l children largest 0 atoms' ors' r
    unfolding result_of count_of
    stage-turn = record {
      list = g.list;
      left = g.left;
      lists = g.lists;
      lies = g.lies;
      is = g.is ∙ (rw e at f.is);
      counts = g.counts ∙ (rw e at f.counts);
      small = λ h. omega (arith, g.small h, f.tight e);
      tight = λ z. omega (arith, g.tight z, f.tight e);
    }

    less-in : (b : Bool) → r.over ≡ b → due b (r.atoms + r.ors) < due false (s.atoms + s.ors)
    less-in true q = omega arith
    less-in false q = omega (arith, g.tight q, g.lists.size, g.lies.size, f.lists.size, f.lies.size)

    pub stage-less : due r.over (r.atoms + r.ors) < due s.over (s.atoms + s.ors)
    stage-less = rw e (less-in r.over refl)

-- ---- after step 1

gathered-in : (n : ℕ) (l new : List Placed) (ors : List Formula) (m : Bool) → (m ≡ false → new ≡ []) → settled_down n (l ++ new) ors ≡ after_gather n l (walk_of false m new ors)
unfolding after_gather walk_of
gathered-in n l new ors true q = refl
gathered-in n l new ors false q = rw (q refl, append-nil l)

counted-in : (n : ℕ) (l new : List Placed) (ors : List Formula) (m : Bool) → (m ≡ false → new ≡ []) → settled_count n (l ++ new) ors ≡ gathered_count n l (walk_of false m new ors)
unfolding gathered_count walk_of
counted-in n l new ors true q = refl
counted-in n l new ors false q = rw (q refl, append-nil l)

module _ {t : Table} {w : Walked} {walk : Walk} (s : Stands t w walk) where
  pub finish-falls : (l : List ℕ) (n : ℕ) → w.falls ≡ true → {atoms ors : List ℕ} {largest : ℕ} {stage : Stage} → FalseIn atoms ors largest stage
      → FinishIs t l walk n largest (level_of atoms ors stage) stage.rounds
  unfolding walk_of after_gather gathered_count
  finish-falls l n e f = record {
    counts = rw (sym s.is, e) (omega (arith, f.counts));
    shows = record { list = []; children = child [] none none; lists = f.lists; lies = f.lies; is = never-parts t ∙ (rw (sym s.is, e)) };
    small = λ h. absurd (omega (arith, f.lists.size, f.lies.size));
  }

  pub finish-goes : (l : List ℕ) (n : ℕ) → w.falls ≡ false → length l + room w ≤ n → {largest rounds : ℕ} (r : Level) → SettleIs t (l ++ s.new) s.children largest r rounds
      → FinishIs t l walk n largest r rounds
  finish-goes l n e h r f = record {
    counts = rw (sym s.is, e, sym (counted-in t.variables (atoms_in t l) (atoms_in t s.new) (ors_in t s.children) w.moved (λ z. rw (s.quiet z))), sym (map-append (atom_of t) l s.new)) f.counts;
    shows = rw (sym s.is, e, sym (gathered-in t.variables (atoms_in t l) (atoms_in t s.new) (ors_in t s.children) w.moved (λ z. rw (s.quiet z))), sym (map-append (atom_of t) l s.new)) f.shows;
    small = λ k. omega (arith, f.small k, length-append l s.new, s.lists.size, s.lies.size);
  }

pub gathered-ready : {atoms : Row} {w : Walked} (g : Gathered atoms w) {list : List ℕ} → Lists (row_of list (atoms.count + w.new.count)) (g.list ++ g.stands.new)
    → length list ≡ 256 → length w.ors.token ≡ 256 → Ready list (atoms.count + w.new.count) w.ors.token w.ors.count
gathered-ready {atoms} {w} g h long wide = record {
  list = g.list ++ g.stands.new;
  children = g.stands.children;
  lists = h;
  lies = g.stands.lies;
  fits = omega (arith, g.fits);
  long = long;
  wide = wide;
}
