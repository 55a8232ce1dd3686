-- 01, "A level": no step adds weight to a formula, where an atom counts 0 or 1 by its place and no less than w. The one node that "false" is written with is paid for by what made the node
-- false: an atom (steps 2 and 3) or an OR child (steps 1 and 4).
use Rattle.std.specs.Prelude.{◌≡◌, Bool, ℤ, eqb}
use Rattle.std.proofs.Math.Path.{refl, ap}
use Rattle.std.proofs.Math.Bool.{true, false}
use Rattle.std.proofs.Common.{true≢false}
use mathlib.Core.List.{List, [], ◌∷◌, ◌++◌}
use Rattle.std.proofs.Math.Option.{Option, none, some}
use Prim.Native.Nat.{ℕ, zero, suc, ◌+◌, ◌≤◌}
use native.Mathlib.Omega.{arith}
use Rattle.rules.specs.Signs.{sign_of, has, empty, full, intersect, inside}
use Rattle.rules.specs.Polynomial.{Atom, same, constant}
use Rattle.rules.specs.Rounds.{State, Outcome, contradiction, settled, run, says_in, carried}
use Rattle.rules.specs.Formula.{end, atom, and, or, Node, leaf, all_of, any_of, alone, is_end, open_formula}
use Rattle.rules.specs.Level.{Placed, plain, plains, with_set, Formula, dual, atoms_of, ors_of, Entry, fails, joins, stays, joins_if, enter, Walk, falls, still, moved, add, gather}
use Rattle.rules.specs.Level.{Tidied, broken, tidied, merged_if, merge_into, merge_constant, merge_normal, normal_placed, merge, kept_if, without_full, after_merging, tidy}
use Rattle.rules.specs.Level.{carry, unless_dropped, pruned_if, prune, add_pruned, sweep, kept_unless, implied, remove_implied, Again, after_sweep, after_rounds}
use Rattle.rules.specs.Level.{after_tidy, settle}
use Rattle.rules.specs.Level.{inner_all, after_gather, and_rule, node_if, as_node, simplify, open_level}
use Rattle.ending_laws.specs.Rounds.{run-idle}
use Rattle.length_laws.specs.Weight.{weight, by_place, load, weight_ors, weight-dual, weight-dual-node, weight_ors-append, weight-parts, weight-split}
use Rattle.length_laws.specs.Pigeonhole.{total, total-append}

-- ---- What the lists of steps 2, 3 and 5 can weigh.

module _ (v : ℕ → ℕ) where
  merged_if-lighter : (b : Bool) (a first : Placed) (later merged : List Placed) → load v merged ≤ v a.place + load v later
      → load v (merged_if b a first later merged) ≤ v a.place + (v first.place + load v later)
  unfolding merged_if total
  merged_if-lighter true a first later merged h = omega arith
  merged_if-lighter false a first later merged h = omega arith

  merge_into-lighter : (a : Placed) (l : List Placed) → load v (merge_into a l) ≤ v a.place + load v l
  unfolding merge_into total
  merge_into-lighter a [] = omega arith
  merge_into-lighter a (first ∷ later) =
      merged_if-lighter (same a.polynomial first.polynomial) a first later (merge_into a later) (merge_into-lighter a later)

  carry-weighs : (l : List Placed) (cut : List Atom) → load v (carry l cut) ≡ load v l
  unfolding carry total
  carry-weighs [] cut = refl
  carry-weighs (a ∷ l) [] = refl
  carry-weighs (a ∷ l) (c ∷ cut) = ap (λ (k : ℕ). v a.place + k) (carry-weighs l cut)

  kept_unless-lighter : (b : Bool) (a : Placed) (kept : List Placed) → load v (kept_unless b a kept) ≤ v a.place + load v kept
  unfolding kept_unless total
  kept_unless-lighter true a kept = omega arith
  kept_unless-lighter false a kept = omega (arith, total-append (by_place v) kept (a ∷ []))

  remove_implied-lighter : (n : ℕ) (kept l : List Placed) → load v (remove_implied n kept l) ≤ load v kept + load v l
  unfolding remove_implied total
  remove_implied-lighter n kept [] = omega arith
  remove_implied-lighter n kept (a ∷ later) =
      let out = implied n (plains (kept ++ later)) (plain a) in
      omega (arith, remove_implied-lighter n (kept_unless out a kept) later, kept_unless-lighter out a kept)

module _ (v : ℕ → ℕ) (w : ℕ) where
  -- ---- Steps 1 and 4: an OR child that comes back, and the walk over the children.

  weight_entry : Entry → ℕ
  weight_entry fails = w
  weight_entry (joins l ors) = load v l + weight_ors v w ors
  weight_entry (stays child) = w + weight (by_place v) w child

  weight_walk : Walk → ℕ
  weight_walk falls = w
  weight_walk (still ors) = weight_ors v w ors
  weight_walk (moved l ors) = load v l + weight_ors v w ors

  joins_if-lighter : (b : Bool) (l : List Placed) (ors : List Formula) (child : Formula) → load v l + weight_ors v w ors ≤ w + weight (by_place v) w child
      → weight_entry (joins_if b l ors child) ≤ w + weight (by_place v) w child
  unfolding weight_entry joins_if
  joins_if-lighter true l ors child h = h
  joins_if-lighter false l ors child h = omega arith

  enter-lighter : (child : Formula) → weight_entry (enter child) ≤ w + weight (by_place v) w child
  unfolding weight_entry enter weight weight_ors total
  enter-lighter end = omega arith
  enter-lighter (atom a rest) = joins_if-lighter (is_end rest) (a ∷ []) [] (atom a rest) (omega arith)
  enter-lighter (and kids rest) = joins_if-lighter (is_end rest) (atoms_of kids) (ors_of kids) (and kids rest) (omega (arith, weight-split v w kids))
  enter-lighter (or kids rest) = omega arith

  add-lighter : (entry : Entry) (walk : Walk) → weight_walk (add entry walk) ≤ weight_entry entry + weight_walk walk
  unfolding weight_entry weight_walk add weight_ors
  add-lighter fails walk = omega arith
  add-lighter (joins l ors) falls = omega arith
  add-lighter (joins l ors) (still later) = omega (arith, weight_ors-append v w ors later)
  add-lighter (joins l ors) (moved m later) = omega (arith, weight_ors-append v w ors later, total-append (by_place v) l m)
  add-lighter (stays child) falls = omega arith
  add-lighter (stays child) (still later) = omega arith
  add-lighter (stays child) (moved m later) = omega arith

  gather-lighter : (rule : Formula → Formula) → ((child : Formula) → weight (by_place v) w (rule child) ≤ weight (by_place v) w child) → (ors : List Formula)
      → weight_walk (gather rule ors) ≤ weight_ors v w ors
  unfolding weight_walk gather weight_ors
  gather-lighter rule h [] = omega arith
  gather-lighter rule h (child ∷ later) =
      omega (arith, add-lighter (enter (rule child)) (gather rule later), enter-lighter (rule child), h child, gather-lighter rule h later)

  weight_pruned : Option Formula → ℕ
  weight_pruned none = 0
  weight_pruned (some child) = w + weight (by_place v) w child

  unless_dropped-lighter : (f : Formula → Formula) (k : ℕ) → ((rest : Formula) → weight (by_place v) w (f rest) ≡ k + weight (by_place v) w rest) → (o : Option Formula)
      → weight_pruned (unless_dropped f o) ≤ k + weight_pruned o
  unfolding weight_pruned unless_dropped
  unless_dropped-lighter f k h none = omega arith
  unless_dropped-lighter f k h (some rest) = omega (arith, h rest)

  pruned_if-lighter : (b c : Bool) (a : Placed) (o : Option Formula) → weight_pruned (pruned_if b c a o) ≤ v a.place + weight_pruned o
  unfolding weight_pruned pruned_if weight
  pruned_if-lighter true c a o = omega arith
  pruned_if-lighter false true a o = omega arith
  pruned_if-lighter false false a o = unless_dropped-lighter (atom a) (v a.place) (λ rest. refl) o

  prune-lighter : (n : ℕ) (st : State) (child : Formula) → weight_pruned (prune n st child) ≤ w + weight (by_place v) w child
  unfolding weight_pruned prune weight
  prune-lighter n st end = omega arith
  prune-lighter n st (atom a rest) =
      let said = says_in n st a.polynomial in
      let cut = intersect a.set said in
      omega (arith, pruned_if-lighter (inside said a.set) (eqb cut empty) (with_set a cut) (prune n st rest), prune-lighter n st rest)
  prune-lighter n st (and kids rest) =
      omega (arith, unless_dropped-lighter (and kids) (w + weight (by_place v) w kids) (λ later. refl) (prune n st rest), prune-lighter n st rest)
  prune-lighter n st (or kids rest) =
      omega (arith, unless_dropped-lighter (or kids) (w + weight (by_place v) w kids) (λ later. refl) (prune n st rest), prune-lighter n st rest)

  add_pruned-lighter : (o : Option Formula) (walk : Walk) → weight_walk (add_pruned o walk) ≤ weight_pruned o + weight_walk walk
  unfolding weight_pruned add_pruned
  add_pruned-lighter none walk = omega arith
  add_pruned-lighter (some child) walk = omega (arith, add-lighter (enter child) walk, enter-lighter child)

  sweep-lighter : (n : ℕ) (st : State) (ors : List Formula) → weight_walk (sweep n st ors) ≤ weight_ors v w ors
  unfolding weight_walk sweep weight_ors
  sweep-lighter n st [] = omega arith
  sweep-lighter n st (child ∷ later) =
      omega (arith, add_pruned-lighter (prune n st child) (sweep n st later), prune-lighter n st child, sweep-lighter n st later)

  -- ---- Step 2.

  weight_tidied : Tidied → ℕ
  weight_tidied broken = w
  weight_tidied (tidied l) = load v l

  module _ (light : (k : ℕ) → (w ≤ v k) × (v k ≤ 1)) where
    merge_constant-lighter : (b : Bool) (a : Placed) (l : List Placed) (k : ℕ) (more : List Placed → Tidied)
        → ((m : List Placed) → weight_tidied (more m) ≤ load v m + k) → weight_tidied (merge_constant b l more) ≤ load v l + (v a.place + k)
    unfolding weight_tidied merge_constant
    merge_constant-lighter true a l k more h = omega (arith, h l)
    merge_constant-lighter false a l k more h = omega (arith, (light a.place).0)

    merge_normal-lighter : (o : Option ℤ) (a : Placed) (l : List Placed) (k : ℕ) (more : List Placed → Tidied) → ((m : List Placed) → weight_tidied (more m) ≤ load v m + k)
        → weight_tidied (merge_normal o a l more) ≤ load v l + (v a.place + k)
    unfolding merge_normal
    merge_normal-lighter none a l k more h = omega (arith, h (merge_into a l), merge_into-lighter v a l)
    merge_normal-lighter (some c) a l k more h = merge_constant-lighter (has (sign_of c) a.set) a l k more h

    merge-lighter : (l later : List Placed) → weight_tidied (merge l later) ≤ load v l + load v later
    unfolding weight_tidied merge normal_placed total
    merge-lighter l [] = omega arith
    merge-lighter l (a ∷ later) =
        merge_normal-lighter (constant (normal_placed a).polynomial) (normal_placed a) l (load v later) (λ (m : List Placed). merge m later) (λ m. merge-lighter m later)

    kept_if-lighter : (b c : Bool) (a : Placed) (t : Tidied) → weight_tidied (kept_if b c a t) ≤ v a.place + weight_tidied t
    unfolding weight_tidied kept_if total
    kept_if-lighter true c a t = omega (arith, (light a.place).0)
    kept_if-lighter false true a t = omega arith
    kept_if-lighter false false a broken = omega arith
    kept_if-lighter false false a (tidied l) = omega arith

    without_full-lighter : (l : List Placed) → weight_tidied (without_full l) ≤ load v l
    unfolding weight_tidied without_full total
    without_full-lighter [] = omega arith
    without_full-lighter (a ∷ l) = omega (arith, kept_if-lighter (eqb a.set empty) (eqb a.set full) a (without_full l), without_full-lighter l)

    after_merging-lighter : (t : Tidied) → weight_tidied (after_merging t) ≤ weight_tidied t
    unfolding weight_tidied after_merging
    after_merging-lighter broken = omega arith
    after_merging-lighter (tidied l) = without_full-lighter l

    tidy-lighter : (l : List Placed) → weight_tidied (tidy l) ≤ load v l
    unfolding tidy total
    tidy-lighter l = omega (arith, after_merging-lighter (merge [] l), merge-lighter [] l)

    -- ---- Step 3.

    weight_outcome : Outcome → ℕ
    weight_outcome contradiction = w
    weight_outcome (settled st) = 0

    outcome-light : (outcome : Outcome) (k : ℕ) → weight_outcome outcome ≤ v k
    unfolding weight_outcome
    outcome-light contradiction k = (light k).0
    outcome-light (settled st) k = omega arith

    run-lighter : (n : ℕ) (l : List Placed) → weight_outcome (run n (plains l)) ≤ load v l
    unfolding weight_outcome total
    run-lighter n [] = rw (run-idle n) (omega arith)
    run-lighter n (a ∷ l) = omega (arith, outcome-light (run n (plains (a ∷ l))) a.place)

    -- ---- The steps in a row, the way back, the rules.

    Lighter : Again → Type 0
    Lighter again = (l : List Placed) (ors : List Formula) → weight (by_place v) w (again l ors) ≤ load v l + weight_ors v w ors

    after_sweep-lighter : (n : ℕ) (l : List Placed) (walk : Walk) (again : Again) → Lighter again → weight (by_place v) w (after_sweep n l walk again) ≤ load v l + weight_walk walk
    unfolding open_level weight weight_walk Lighter total
    after_sweep-lighter n l falls again h = omega arith
    after_sweep-lighter n l (still ors) again h = omega (arith, weight-parts v w (remove_implied n [] l) ors, remove_implied-lighter v n [] l)
    after_sweep-lighter n l (moved new ors) again h = omega (arith, h (l ++ new) ors, total-append (by_place v) l new)

    after_rounds-lighter : (n : ℕ) (l : List Placed) (outcome : Outcome) (ors : List Formula) (again : Again) → Lighter again → weight_outcome outcome ≤ load v l
        → weight (by_place v) w (after_rounds n l outcome ors again) ≤ load v l + weight_ors v w ors
    unfolding open_level weight weight_outcome
    after_rounds-lighter n l contradiction ors again h paid = omega arith
    after_rounds-lighter n l (settled st) ors again h paid =
        let cut = carried n st.board (plains l) st.atoms in
        omega (arith, after_sweep-lighter n (carry l cut) (sweep n st ors) again h, sweep-lighter n st ors, carry-weighs v l cut)

    after_tidy-lighter : (n : ℕ) (t : Tidied) (ors : List Formula) (again : Again) → Lighter again → weight (by_place v) w (after_tidy n t ors again) ≤ weight_tidied t + weight_ors v w ors
    unfolding open_level weight weight_tidied
    after_tidy-lighter n broken ors again h = omega arith
    after_tidy-lighter n (tidied l) ors again h = after_rounds-lighter n l (run n (plains l)) ors again h (run-lighter n l)

    settle-lighter : (n k : ℕ) (l : List Placed) (ors : List Formula) → weight (by_place v) w (settle n k l ors) ≤ load v l + weight_ors v w ors
    unfolding settle Lighter
    settle-lighter n zero l ors = omega (arith, weight-parts v w l ors)
    settle-lighter n (suc k) l ors =
        let again : Again = λ (m : List Placed) (later : List Formula). settle n k m later in
        omega (arith, after_tidy-lighter n (tidy l) ors again (λ m later. settle-lighter n k m later), tidy-lighter l)

    after_gather-lighter : (n : ℕ) (l : List Placed) (walk : Walk) → weight (by_place v) w (after_gather n l walk) ≤ load v l + weight_walk walk
    unfolding open_level weight weight_walk
    after_gather-lighter n l falls = omega arith
    after_gather-lighter n l (still ors) = settle-lighter n (1 + inner_all ors) l ors
    after_gather-lighter n l (moved new ors) = omega (arith, settle-lighter n (1 + inner_all ors) (l ++ new) ors, total-append (by_place v) l new)

    -- The AND rule adds no weight to a formula.
    pub rule-lighter : (n d : ℕ) (kids : Formula) → weight (by_place v) w (and_rule n d kids) ≤ weight (by_place v) w kids
    unfolding and_rule
    rule-lighter n zero kids = omega arith
    rule-lighter n (suc d) kids =
        let rule : Formula → Formula = λ (child : Formula). dual (and_rule n d (dual child)) in
        let lighter : (child : Formula) → weight (by_place v) w (rule child) ≤ weight (by_place v) w child =
        λ child. omega (arith, weight-dual v w (and_rule n d (dual child)), rule-lighter n d (dual child), weight-dual v w child) in
        omega (arith, after_gather-lighter n (atoms_of kids) (gather rule (ors_of kids)), gather-lighter rule lighter (ors_of kids), weight-split v w kids)

    -- ---- Step 6 at the root, and the whole tree.

    part-heavy : (f : Formula) → is_end f ≡ false → w ≤ weight (by_place v) w f
    unfolding is_end weight
    part-heavy end e = absurd (true≢false e)
    part-heavy (atom a rest) e = omega (arith, (light a.place).0)
    part-heavy (and kids rest) e = omega arith
    part-heavy (or kids rest) e = omega arith

    node_if-lighter : (b : Bool) (one : Node Placed) (kids : Formula) → weight (by_place v) w (alone one) ≤ w + weight (by_place v) w kids → weight (by_place v) w (alone (node_if b one kids)) ≤ w + weight (by_place v) w kids
    unfolding node_if open_formula weight
    node_if-lighter true one kids h = h
    node_if-lighter false one kids h = omega arith

    as_node-lighter : (f : Formula) → weight (by_place v) w (alone (as_node f)) ≤ w + weight (by_place v) w f
    unfolding as_node open_formula weight
    as_node-lighter end = omega arith
    as_node-lighter (atom a rest) = node_if-lighter (is_end rest) (leaf a) (atom a rest) (omega arith)
    as_node-lighter (and kids rest) = node_if-lighter (is_end rest) (all_of kids) (and kids rest) (omega arith)
    as_node-lighter (or kids rest) = node_if-lighter (is_end rest) (any_of kids) (or kids rest) (omega arith)

    -- What weighs no more than an atom does so as a node too: it has one part, or only parts that weigh nothing.
    node_if-light : (b : Bool) (one : Node Placed) (kids : Formula) (k : ℕ) → weight (by_place v) w (alone one) ≤ weight (by_place v) w kids
        → (b ≡ false → w + w ≤ weight (by_place v) w kids) → weight (by_place v) w kids ≤ v k → weight (by_place v) w (alone (node_if b one kids)) ≤ v k
    unfolding node_if open_formula weight
    node_if-light true one kids k h two most = omega arith
    node_if-light false one kids k h two most = omega (arith, two refl, (light k).1)

    as_node-light : (f : Formula) (k : ℕ) → weight (by_place v) w f ≤ v k → weight (by_place v) w (alone (as_node f)) ≤ v k
    unfolding as_node open_formula weight
    as_node-light end k most = omega (arith, (light k).0)
    as_node-light (atom a rest) k most = node_if-light (is_end rest) (leaf a) (atom a rest) k (omega arith) (λ e. omega (arith, part-heavy rest e, (light a.place).0)) most
    as_node-light (and kids rest) k most = node_if-light (is_end rest) (all_of kids) (and kids rest) k (omega arith) (λ e. omega (arith, part-heavy rest e)) most
    as_node-light (or kids rest) k most = node_if-light (is_end rest) (any_of kids) (or kids rest) k (omega arith) (λ e. omega (arith, part-heavy rest e)) most

    -- Simplifying adds no weight to a tree.
    pub simplify-lighter : (n : ℕ) (tree : Node Placed) → weight (by_place v) w (alone (simplify n tree)) ≤ weight (by_place v) w (alone tree)
    unfolding simplify open_formula weight
    simplify-lighter n (leaf a) = omega (arith, as_node-light (and_rule n 6 (atom a end)) a.place (omega (arith, rule-lighter n 6 (atom a end))))
    simplify-lighter n (all_of kids) = omega (arith, as_node-lighter (and_rule n 6 kids), rule-lighter n 6 kids)
    simplify-lighter n (any_of kids) =
        omega (arith, weight-dual-node v w (as_node (and_rule n 6 (dual kids))), as_node-lighter (and_rule n 6 (dual kids)), rule-lighter n 6 (dual kids), weight-dual v w kids)
