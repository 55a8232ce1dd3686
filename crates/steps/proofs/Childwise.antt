-- Step 4 over a row of children, one after the other: what becomes of each, and what the walk over them has found.
use mathlib.Core.Path.{◌≡◌, refl, sym, ◌∙◌, ap}
use mathlib.Core.Bool.{true, false}
use mathlib.Core.List.{List, [], ◌++◌}
use mathlib.Core.Option.{Option, none, some}
use Prim.Native.Nat.{ℕ, ◌+◌, ◌*◌, ◌/◌, ◌%◌, ◌<◌, ◌≤◌}
use native.Mathlib.Nat.{add-zero}
use native.Mathlib.Omega.{arith}
use lib.ListN.{length, drop, get_or, length-append}
use lib.Seq.{get_or-drop}
use Rattle.rules.specs.Level.{Formula, dual, parts, enter, Walk, still, add_pruned, prune, sweep}
use Rattle.table.specs.Table.{Table}
use Rattle.tape.specs.declared.rows.Row.{Row}
use Rattle.tape.specs.declared.walks.Walked.{Walked}
use Rattle.round.specs.declared.State.{State}
use Rattle.steps.specs.declared.sweeping.Pruned.{Pruned}
use Rattle.tape.specs.Row.{Lists}
use Rattle.tape.specs.Token.{atoms_in}
use Rattle.tape.specs.Tape.{Children, none, child, laid, ors_in, ChildAt}
use Rattle.tape.specs.Walked.{Shows, Stands, Goes, load}
use Rattle.round.specs.Views.{state_of}
use Rattle.steps.specs.Swept.{unless_so, PruneIs, after_pruned, EntersPruned, SweepIs}
use Rattle.tape.specs.Listing.{held_at}
use Rattle.tape.specs.Entering.{head_of}
use Rattle.tape.specs.Further.{further, further-start, further-end, further-child}
use Rattle.tape.specs.Placed.{past-child}

-- ---- one child of step 4

further-pruned : (walk : Walk) (pruned : Option Formula) (later : Walk) → further (after_pruned walk pruned) later ≡ further walk (add_pruned pruned later)
unfolding after_pruned add_pruned
further-pruned walk none later = refl
further-pruned walk (some kids) later = further-child walk (enter kids) later

module _ {t : Table} {state : State} {walked : Walked} {walk : Walk} {l : List ℕ} {own : Children} {r : Pruned} (f : PruneIs t state l r) where
  pub child-dropped : Stands t walked walk → r.dropped ≡ true → EntersPruned t state walked walk l own walked
  unfolding unless_so after_pruned
  child-dropped s e = record { stands = rw (f.is own, e) s; grows = omega arith }

  pub child-enters : r.dropped ≡ false → (ors : Row) (after : Walked) → Lists ors (laid own)
      → ((kids : Formula) → Shows t (record { atoms = r.list; ors = ors }) kids → Goes t walked walk (r.list.count + ors.count) after (enter (dual kids)))
      → EntersPruned t state walked walk l own after
  unfolding unless_so after_pruned
  child-enters e ors after h g =
      let q = g (parts (atoms_in t f.list) (ors_in t own)) (record { list = f.list; children = own; lists = f.lists; lies = h; is = refl }) in
      record { stands = rw (f.is own, e) q.stands; grows = omega (arith, q.grows, f.lists.size, f.small, h.size) }

-- ---- the loop over the children

pub record Sweeping (t : Table) (state : State) (children : Children) (walked : Walked) (place : ℕ) : Type 0 where
  pub rest : Children
  pub ahead : drop place (laid children) ≡ laid rest
  pub left : place + length (laid rest) ≡ length (laid children)
  pub walk : Walk
  pub stands : Stands t walked walk
  pub is : further walk (sweep t.variables (state_of t state) (ors_in t rest)) ≡ sweep t.variables (state_of t state) (ors_in t children)
  pub room : load walked + length (laid rest) ≤ length (laid children)

pub sweep-start : (t : Table) (state : State) (children : Children) (walked : Walked) → load walked ≡ 0 → Stands t walked (still []) → Sweeping t state children walked 0
sweep-start t state children walked e h = record { rest = children; ahead = refl; left = omega arith; walk = still []; stands = h; is = further-start _; room = omega arith }

sweep-none : (t : Table) (state : State) → sweep t.variables (state_of t state) (ors_in t none) ≡ still []
unfolding sweep ors_in
sweep-none t state = refl

sweep-child : (t : Table) (state : State) (l : List ℕ) (own later : Children) → sweep t.variables (state_of t state) (ors_in t (child l own later))
    ≡ add_pruned (prune t.variables (state_of t state) (dual (parts (atoms_in t l) (ors_in t own)))) (sweep t.variables (state_of t state) (ors_in t later))
unfolding sweep ors_in
sweep-child t state l own later = refl

-- a child is left
pub record Here (t : Table) (state : State) (children : Children) (walked : Walked) (place a e : ℕ) : Type 0 where
  pub atoms : List ℕ
  pub own : Children
  pub rest : Children
  pub at : ChildAt (laid children) place a e atoms own (laid rest)
  pub left : place + 1 + a + e + length (laid rest) ≡ length (laid children)
  pub walk : Walk
  pub stands : Stands t walked walk
  pub is : further walk (add_pruned (prune t.variables (state_of t state) (dual (parts (atoms_in t atoms) (ors_in t own)))) (sweep t.variables (state_of t state) (ors_in t rest)))
      ≡ sweep t.variables (state_of t state) (ors_in t children)
  pub room : load walked + (1 + a + e + length (laid rest)) ≤ length (laid children)

pub sweep-turn : {t : Table} {state : State} {children : Children} {walked : Walked} {place a e : ℕ} (q : Here t state children walked place a e) (after : Walked)
    → EntersPruned t state walked q.walk q.atoms q.own after → Sweeping t state children after (place + 1 + a + e)
sweep-turn {t} {state} q after g = record {
  rest = q.rest;
  ahead = past-child q.at;
  left = q.left;
  walk = after_pruned q.walk (prune t.variables (state_of t state) (dual (parts (atoms_in t q.atoms) (ors_in t q.own))));
  stands = g.stands;
  is = further-pruned q.walk _ _ ∙ q.is;
  room = omega (arith, g.grows, q.room, q.at.count, q.at.size);
}

module _ (t : Table) (state : State) (children : Children) (walked : Walked) (place : ℕ) (row : Row) (h : Lists row (laid children)) where
  end-in : (rest : Children) → length (laid rest) ≡ 0 → (walk : Walk) → Stands t walked walk
      → further walk (sweep t.variables (state_of t state) (ors_in t rest)) ≡ sweep t.variables (state_of t state) (ors_in t children)
      → Stands t walked (sweep t.variables (state_of t state) (ors_in t children))
  end-in none z walk s e = rw (sym e, sweep-none t state, further-end walk) s
  end-in (child l own later) z walk s e = absurd (omega arith)

  here_in : (rest : Children) → drop place (laid children) ≡ laid rest → 0 < length (laid rest) → row.count ≤ 256 → place + length (laid rest) ≡ length (laid children)
      → (walk : Walk) → Stands t walked walk → further walk (sweep t.variables (state_of t state) (ors_in t rest)) ≡ sweep t.variables (state_of t state) (ors_in t children)
      → load walked + length (laid rest) ≤ length (laid children) → Here t state children walked place (get_or row.token place 0 / 65536) (get_or row.token place 0 % 65536)
  here_in none e z fit u walk s i v = absurd (omega arith)
  here_in (child l own later) e z fit u walk s i v =
      let first : get_or row.token place 0 ≡ length l * 65536 + length (laid own) =
      held_at h place (omega (arith, u)) ∙ sym (rw (add-zero place) at (get_or-drop place (laid children) 0 0)) ∙ ap (λ (m : List ℕ). get_or m 0 0) e in
      let long : length (l ++ (laid own ++ laid later)) ≡ length l + (length (laid own) + length (laid later)) =
      length-append l (laid own ++ laid later) ∙ ap (λ (n : ℕ). length l + n) (length-append (laid own) (laid later)) in
      let counts = head_of (get_or row.token place 0) l own first (omega (arith, u, long, h.size, fit)) in
      record {
        atoms = l;
        own = own;
        rest = later;
        at = record { head = length l * 65536 + length (laid own); here = e; count = counts.atoms; size = counts.inner };
        left = omega (arith, counts.atoms, counts.inner, u, long);
        walk = walk;
        stands = s;
        is = rw (sweep-child t state l own later) at i;
        room = omega (arith, counts.atoms, counts.inner, v, long);
      }

module _ {t : Table} {state : State} {children : Children} {walked : Walked} {place : ℕ} (q : Sweeping t state children walked place) (row : Row) (h : Lists row (laid children)) where
  pub sweep-end : row.count ≤ place → SweepIs t state children walked
  sweep-end e = record {
    stands = end-in t state children walked place row h q.rest (omega (arith, q.left, h.size)) q.walk q.stands q.is;
    small = omega (arith, q.room);
  }

  pub sweep-here : (a e : ℕ) → a ≡ get_or row.token place 0 / 65536 → e ≡ get_or row.token place 0 % 65536 → row.count ≤ 256 → place < row.count → Here t state children walked place a e
  sweep-here a e x y fit z =
      rw (x, y) (here_in t state children walked place row h q.rest q.ahead (omega (arith, q.left, h.size)) fit q.left q.walk q.stands q.is q.room)
