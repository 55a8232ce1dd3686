-- 01, "A level": what the rules make of the parts of an AND whose atoms are as a block gives them. Their atoms are formed, AND and OR alternate, and
-- the nesting is no deeper. Only "false", an OR with no parts, may stand one deeper: the parent drops it, and at the root there is room for it.
use Rattle.std.specs.Prelude.{◌≡◌, Bool, ℤ, eqb}
use Rattle.std.proofs.Math.Path.{refl}
use Rattle.std.proofs.Math.Bool.{true, false}
use mathlib.Core.List.{List, [], ◌∷◌, ◌++◌}
use Rattle.std.proofs.Math.Option.{Option, none, some}
use Prim.Native.Nat.{ℕ, zero, suc}
use Rattle.std.proofs.Common.{one-add}
use Rattle.rules.specs.Signs.{sign_of, has, empty, full, intersect, inside}
use Rattle.rules.specs.Polynomial.{Polynomial, Atom, same, constant}
use Rattle.rules.specs.Rounds.{State, Outcome, contradiction, settled, run, says_in}
use Rattle.rules.specs.Formula.{end, and, or, Node, is_end, open_formula}
use Rattle.rules.specs.Level.{Placed, plain, plains, Formula, dual, atoms_of, ors_of, Entry, fails, joins, stays, joins_if, enter, Walk, falls, still, moved, add, gather}
use Rattle.rules.specs.Level.{Tidied, broken, tidied, merged_if, merge_into, merge_constant, merge_normal, normal_placed, merge, kept_if, without_full, after_merging, tidy}
use Rattle.rules.specs.Level.{carry, unless_dropped, pruned_if, prune, add_pruned, sweep, kept_unless, implied, remove_implied, never, Again, after_sweep}
use Rattle.rules.specs.Level.{after_rounds, after_tidy, settle}
use Rattle.rules.specs.Level.{inner_all, settled_down, after_gather, and_rule, node_if, as_node, simplify, open_level}
use Rattle.sign_laws.specs.Lists.{Every, every_none, every, every_append, every-wider}
use Rattle.rules.specs.Polynomial.{normal_form}
use Rattle.length_laws.specs.Alternation.{AND, OR, Alternates, no_parts, an_atom, an_and, an_or, deeper, alternates-dual, Child, child}
use Rattle.length_laws.specs.Alternation.{child-deeper, direct-atoms, or-children, alternates-parts, TreeAlternates, one_atom, one_and, one_or}
use Rattle.length_laws.specs.Alternation.{tree-dual}
use Rattle.length_laws.specs.Formed.{Small, GivenAt, FormedAt, formed-at-with, formed-normal, given-complemented, formed-complemented, formed-given}
use Rattle.length_laws.specs.Formed.{intersect-small}
use Rattle.length_laws.specs.RoundsKeep.{AllSmall, carried-small}

-- What the AND rule gives for an AND with d nestings left: "false", or parts that alternate in as many nestings.
pub data Result (Form : ℕ → Polynomial → Type 0) (d : ℕ) : Formula → Type 0 where
  false_result : Result Form d (or end end)
  result : {f : Formula} → Alternates (FormedAt Form) AND d f → Result Form d f

pub data EntryFormed (Form : ℕ → Polynomial → Type 0) (d : ℕ) : Entry → Type 0 where
  it_fails : EntryFormed Form d fails
  it_joins : {l : List Placed} {ors : List Formula} → Every (FormedAt Form) l → Every (Child (FormedAt Form) d) ors → EntryFormed Form d (joins l ors)
  it_stays : {f : Formula} → Child (FormedAt Form) d f → EntryFormed Form d (stays f)

pub data WalkFormed (Form : ℕ → Polynomial → Type 0) (d : ℕ) : Walk → Type 0 where
  it_falls : WalkFormed Form d falls
  are_still : {ors : List Formula} → Every (Child (FormedAt Form) d) ors → WalkFormed Form d (still ors)
  have_moved : {l : List Placed} {ors : List Formula} → Every (FormedAt Form) l → Every (Child (FormedAt Form) d) ors → WalkFormed Form d (moved l ors)

data PrunedFormed (Form : ℕ → Polynomial → Type 0) (d : ℕ) : Option Formula → Type 0 where
  dropped : PrunedFormed Form d none
  left : {f : Formula} → Alternates (FormedAt Form) OR d f → PrunedFormed Form d (some f)

pub data TidiedFormed (Form : ℕ → Polynomial → Type 0) : Tidied → Type 0 where
  is_broken : TidiedFormed Form broken
  is_tidied : {l : List Placed} → Every (FormedAt Form) l → TidiedFormed Form (tidied l)

-- A way back to step 2 that keeps this, from atoms that are formed.
record Keeps (Form : ℕ → Polynomial → Type 0) (d : ℕ) (again : Again) : Type 0 where
  back : (l : List Placed) (ors : List Formula) → Every (FormedAt Form) l → Every (Child (FormedAt Form) d) ors → Result Form d (again l ors)

module _ {Form : ℕ → Polynomial → Type 0} where
  -- ---- Steps 1 and 4: an OR child that comes back, and the walk over the children.

  joins_if-formed : {d : ℕ} (b : Bool) {l : List Placed} {ors : List Formula} {f : Formula}
      → Every (FormedAt Form) l → Every (Child (FormedAt Form) d) ors → Child (FormedAt Form) d f
      → EntryFormed Form d (joins_if b l ors f)
  unfolding joins_if
  joins_if-formed true l ors f = it_joins l ors
  joins_if-formed false l ors f = it_stays f

  enter-formed : {d : ℕ} {f : Formula} → Alternates (FormedAt Form) OR d f → EntryFormed Form (suc d) (enter f)
  unfolding enter
  enter-formed no_parts = it_fails
  enter-formed (an_atom {rest = rest} h hs) = joins_if-formed (is_end rest) (every h every_none) every_none (child (an_atom h hs))
  enter-formed (an_and {rest = rest} kids hs) =
      joins_if-formed (is_end rest) (direct-atoms kids) (every-wider (λ f h. child-deeper (child-deeper h)) (or-children kids)) (child (an_and kids hs))

  add-formed : {d : ℕ} {entry : Entry} {walk : Walk} → EntryFormed Form d entry → WalkFormed Form d walk → WalkFormed Form d (add entry walk)
  unfolding add
  add-formed it_fails walk = it_falls
  add-formed (it_joins l ors) it_falls = it_falls
  add-formed (it_joins l ors) (are_still later) = have_moved l (every_append ors later)
  add-formed (it_joins l ors) (have_moved m later) = have_moved (every_append l m) (every_append ors later)
  add-formed (it_stays f) it_falls = it_falls
  add-formed (it_stays f) (are_still later) = are_still (every f later)
  add-formed (it_stays f) (have_moved m later) = have_moved m (every f later)

  pub gather-formed : {d : ℕ} (rule : Formula → Formula) → ((f : Formula) → Child (GivenAt Form) d f → EntryFormed Form d (enter (rule f)))
      → {ors : List Formula} → Every (Child (GivenAt Form) d) ors → WalkFormed Form d (gather rule ors)
  unfolding gather
  gather-formed rule h every_none = are_still every_none
  gather-formed rule h (every {a = f} k ks) = add-formed (h f k) (gather-formed rule h ks)

  pruned_if-formed : {d : ℕ} (b c : Bool) {a : Placed} {o : Option Formula} → FormedAt Form a → PrunedFormed Form d o → PrunedFormed Form d (pruned_if b c a o)
  unfolding pruned_if unless_dropped
  pruned_if-formed true c h o = dropped
  pruned_if-formed false true h o = o
  pruned_if-formed false false h dropped = dropped
  pruned_if-formed false false h (left rest) = left (an_atom h rest)

  unless_dropped-formed : {d : ℕ} {kids : Formula} {o : Option Formula} → Alternates (FormedAt Form) AND d kids → PrunedFormed Form (suc d) o
      → PrunedFormed Form (suc d) (unless_dropped (and kids) o)
  unfolding unless_dropped
  unless_dropped-formed kids dropped = dropped
  unless_dropped-formed kids (left rest) = left (an_and kids rest)

  prune-formed : (n : ℕ) (st : State) {d : ℕ} {f : Formula} → Alternates (FormedAt Form) OR d f → PrunedFormed Form d (prune n st f)
  unfolding prune
  prune-formed n st no_parts = left no_parts
  prune-formed n st (an_atom {a = a} h rest) =
      let said = says_in n st a.polynomial in
      let cut = intersect a.set said in
      pruned_if-formed (inside said a.set) (eqb cut empty) (formed-at-with cut (intersect-small a.set said) h) (prune-formed n st rest)
  prune-formed n st (an_and kids rest) = unless_dropped-formed kids (prune-formed n st rest)

  add_pruned-formed : {d : ℕ} {o : Option Formula} {walk : Walk} → PrunedFormed Form d o → WalkFormed Form (suc d) walk → WalkFormed Form (suc d) (add_pruned o walk)
  unfolding add_pruned
  add_pruned-formed dropped walk = walk
  add_pruned-formed (left f) walk = add-formed (enter-formed f) walk

  pub sweep-formed : (n : ℕ) (st : State) {d : ℕ} {ors : List Formula} → Every (Child (FormedAt Form) d) ors → WalkFormed Form d (sweep n st ors)
  unfolding sweep
  sweep-formed n st every_none = are_still every_none
  sweep-formed n st (every (child h) later) = add_pruned-formed (prune-formed n st h) (sweep-formed n st later)

  -- ---- Step 2.

  merged_if-formed : (b : Bool) (a first : Placed) {later merged : List Placed} → FormedAt Form first → Every (FormedAt Form) later → Every (FormedAt Form) merged
      → Every (FormedAt Form) (merged_if b a first later merged)
  unfolding merged_if
  merged_if-formed true a first h hs ks = every (formed-at-with (intersect first.set a.set) (intersect-small first.set a.set) h) hs
  merged_if-formed false a first h hs ks = every h ks

  merge_into-formed : {a : Placed} {l : List Placed} → FormedAt Form a → Every (FormedAt Form) l → Every (FormedAt Form) (merge_into a l)
  unfolding merge_into
  merge_into-formed h every_none = every h every_none
  merge_into-formed {a} h (every {a = first} k ks) = merged_if-formed (same a.polynomial first.polynomial) a first k ks (merge_into-formed h ks)

  merge_constant-formed : (b : Bool) {l : List Placed} (more : List Placed → Tidied) → Every (FormedAt Form) l
      → ((m : List Placed) → Every (FormedAt Form) m → TidiedFormed Form (more m)) → TidiedFormed Form (merge_constant b l more)
  unfolding merge_constant
  merge_constant-formed true {l} more h k = k l h
  merge_constant-formed false more h k = is_broken

  merge_normal-formed : (o : Option ℤ) {a : Placed} {l : List Placed} (more : List Placed → Tidied) → (o ≡ none → FormedAt Form a) → Every (FormedAt Form) l
      → ((m : List Placed) → Every (FormedAt Form) m → TidiedFormed Form (more m)) → TidiedFormed Form (merge_normal o a l more)
  unfolding merge_normal
  merge_normal-formed none {a} {l} more g h k = k (merge_into a l) (merge_into-formed (g refl) h)
  merge_normal-formed (some c) {a} more g h k = merge_constant-formed (has (sign_of c) a.set) more h k

  merge-formed : {l later : List Placed} → Every (FormedAt Form) l → Every (GivenAt Form) later → TidiedFormed Form (merge l later)
  unfolding merge
  merge-formed h every_none = is_tidied h
  merge-formed h (every {a} {l = later} k ks) =
      merge_normal-formed (constant (normal_placed a).polynomial) (λ (m : List Placed). merge m later) (λ e. formed-normal a e k) h (λ m hs. merge-formed hs ks)

  kept_if-formed : (b c : Bool) {a : Placed} {t : Tidied} → FormedAt Form a → TidiedFormed Form t → TidiedFormed Form (kept_if b c a t)
  unfolding kept_if
  kept_if-formed true c h k = is_broken
  kept_if-formed false true h k = k
  kept_if-formed false false h is_broken = is_broken
  kept_if-formed false false h (is_tidied ks) = is_tidied (every h ks)

  without_full-formed : {l : List Placed} → Every (FormedAt Form) l → TidiedFormed Form (without_full l)
  unfolding without_full
  without_full-formed every_none = is_tidied every_none
  without_full-formed (every {a} h hs) = kept_if-formed (eqb a.set empty) (eqb a.set full) h (without_full-formed hs)

  after_merging-formed : {t : Tidied} → TidiedFormed Form t → TidiedFormed Form (after_merging t)
  unfolding after_merging
  after_merging-formed is_broken = is_broken
  after_merging-formed (is_tidied h) = without_full-formed h

  pub tidy-formed : {l : List Placed} → Every (GivenAt Form) l → TidiedFormed Form (tidy l)
  unfolding tidy
  tidy-formed h = after_merging-formed (merge-formed every_none h)

  -- ---- Step 5.

  kept_unless-formed : (b : Bool) {a : Placed} {kept : List Placed} → FormedAt Form a → Every (FormedAt Form) kept → Every (FormedAt Form) (kept_unless b a kept)
  unfolding kept_unless
  kept_unless-formed true h k = k
  kept_unless-formed false h k = every_append k (every h every_none)

  remove_implied-formed : (n : ℕ) {kept l : List Placed} → Every (FormedAt Form) kept → Every (FormedAt Form) l → Every (FormedAt Form) (remove_implied n kept l)
  unfolding remove_implied
  remove_implied-formed n k every_none = k
  remove_implied-formed n {kept} k (every {a} {l = later} h hs) =
      remove_implied-formed n {kept = kept_unless (implied n (plains (kept ++ later)) (plain a)) a kept} (kept_unless-formed (implied n (plains (kept ++ later)) (plain a)) h k) hs

  -- ---- The steps in a row, the way back.

  after_sweep-keeps : (n : ℕ) {d : ℕ} {l : List Placed} {walk : Walk} (again : Again) → Keeps Form d again → Every (FormedAt Form) l → WalkFormed Form d walk
      → Result Form d (after_sweep n l walk again)
  unfolding open_level
  after_sweep-keeps n again h l it_falls = false_result
  after_sweep-keeps n again h l (are_still ors) = result (alternates-parts (remove_implied-formed n every_none l) ors)
  after_sweep-keeps n {l = atoms} again h l (have_moved {l = new} {ors = children} m ors) = h.back (atoms ++ new) children (every_append l m) ors

  pub formed-small : {l : List Placed} → Every (FormedAt Form) l → AllSmall (plains l)
  formed-small every_none = every_none
  formed-small (every h hs) = every h.small (formed-small hs)

  pub carry-formed : {l : List Placed} {cut : List Atom} → Every (FormedAt Form) l → AllSmall cut → Every (FormedAt Form) (carry l cut)
  unfolding carry
  carry-formed every_none cs = every_none
  carry-formed (every h hs) every_none = every h hs
  carry-formed (every h hs) (every {a = c} k ks) = every (formed-at-with c.set k h) (carry-formed hs ks)

  after_rounds-keeps : (n : ℕ) {d : ℕ} {l : List Placed} {ors : List Formula} (again : Again) → Keeps Form d again → Every (FormedAt Form) l
      → (outcome : Outcome) → run n (plains l) ≡ outcome → Every (Child (FormedAt Form) d) ors → Result Form d (after_rounds n l outcome ors again)
  unfolding open_level
  after_rounds-keeps n again h l contradiction e ors = false_result
  after_rounds-keeps n again h l (settled st) e ors = after_sweep-keeps n again h (carry-formed l (carried-small n e (formed-small l))) (sweep-formed n st ors)

  after_tidy-keeps : (n : ℕ) {d : ℕ} {t : Tidied} {ors : List Formula} (again : Again) → Keeps Form d again → TidiedFormed Form t → Every (Child (FormedAt Form) d) ors
      → Result Form d (after_tidy n t ors again)
  unfolding open_level
  after_tidy-keeps n again h is_broken ors = false_result
  after_tidy-keeps n again h (is_tidied {l = list} l) ors = after_rounds-keeps n again h l (run n (plains list)) refl ors

  module _ (own : (k : ℕ) (p : Polynomial) → Form k p → normal_form p ≡ p) where
    -- The turns after the first find the atoms formed.
    settle-keeps : (n k : ℕ) {d : ℕ} {l : List Placed} {ors : List Formula} → Every (FormedAt Form) l → Every (Child (FormedAt Form) d) ors
        → Result Form d (settle n k l ors)
    unfolding settle
    settle-keeps n zero l ors = result (alternates-parts l ors)
    settle-keeps n (suc k) l ors =
        after_tidy-keeps n (λ (m : List Placed) (later : List Formula). settle n k m later) (record { back = λ m later hs ks. settle-keeps n k hs ks })
        (tidy-formed (every-wider (formed-given own) l)) ors

    -- The first turn forms them.
    first-turn : (n k : ℕ) {d : ℕ} {l : List Placed} {ors : List Formula} → Every (GivenAt Form) l → Every (Child (FormedAt Form) d) ors
        → Result Form d (settle n (suc k) l ors)
    unfolding settle
    first-turn n k l ors =
        after_tidy-keeps n (λ (m : List Placed) (later : List Formula). settle n k m later) (record { back = λ m later hs ks. settle-keeps n k hs ks }) (tidy-formed l) ors

    settled-keeps : (n : ℕ) {d : ℕ} {l : List Placed} {ors : List Formula} → Every (GivenAt Form) l → Every (Child (FormedAt Form) d) ors
        → Result Form d (settled_down n l ors)
    unfolding settled_down
    settled-keeps n {ors = children} l ors = rw (one-add (inner_all children)) (first-turn n (inner_all children) l ors)

    after_gather-keeps : (n : ℕ) {d : ℕ} {l : List Placed} {walk : Walk} → Every (GivenAt Form) l → WalkFormed Form d walk → Result Form d (after_gather n l walk)
    unfolding after_gather never
    after_gather-keeps n l it_falls = false_result
    after_gather-keeps n l (are_still ors) = settled-keeps n l ors
    after_gather-keeps n l (have_moved new ors) = settled-keeps n (every_append l (every-wider (formed-given own) new)) ors

    -- ---- The rules.

    -- An OR child that the OR rule made: "false" complemented is true, and joins as nothing.
    pub enter-result : {d : ℕ} {f : Formula} → Result Form d f → EntryFormed Form (suc d) (enter (dual f))
    unfolding enter dual open_formula joins_if atoms_of ors_of
    enter-result false_result = it_joins every_none every_none
    enter-result (result h) = enter-formed (alternates-dual formed-complemented h)

    rule-by-children : (n : ℕ) {d : ℕ} {kids : Formula} → ((f : Formula) → Child (GivenAt Form) d f → EntryFormed Form d (enter (dual (and_rule n d (dual f)))))
        → Alternates (GivenAt Form) AND d kids → Result Form d (and_rule n (suc d) kids)
    unfolding and_rule
    rule-by-children n {d} h kids = after_gather-keeps n (direct-atoms kids) (gather-formed (λ (f : Formula). dual (and_rule n d (dual f))) h (or-children kids))

    -- The AND rule, with a nesting more than there is below, gives such a result.
    pub rule-keeps : (n d : ℕ) {kids : Formula} → Alternates (GivenAt Form) AND d kids → Result Form d (and_rule n (suc d) kids)
    rule-keeps n zero kids = rule-by-children n no-child kids
      where
        no-child : (f : Formula) → Child (GivenAt Form) 0 f → EntryFormed Form 0 (enter (dual (and_rule n 0 (dual f))))
        no-child f h = elim h [ ]
    rule-keeps n (suc d) kids = rule-by-children n (λ f h. each-child f h (λ g kept. rule-keeps n d kept)) kids
      where
        each-child : (f : Formula) → Child (GivenAt Form) (suc d) f → ((g : Formula) → Alternates (GivenAt Form) AND d g → Result Form d (and_rule n (suc d) g))
            → EntryFormed Form (suc d) (enter (dual (and_rule n (suc d) (dual f))))
        each-child f (child h) keeps = enter-result (keeps (dual f) (alternates-dual given-complemented h))

    -- ---- Step 6 at the root, and the whole tree.

    node_if-keeps : {d : ℕ} (b : Bool) {one : Node Placed} {kids : Formula} → TreeAlternates (FormedAt Form) d one → Alternates (FormedAt Form) AND d kids
        → TreeAlternates (FormedAt Form) d (node_if b one kids)
    unfolding node_if
    node_if-keeps true h k = h
    node_if-keeps false h k = one_and k

    as_node-keeps : {d : ℕ} {f : Formula} → Result Form d f → TreeAlternates (FormedAt Form) d (as_node f)
    unfolding as_node node_if is_end
    as_node-keeps false_result = one_or no_parts
    as_node-keeps (result no_parts) = one_and no_parts
    as_node-keeps (result (an_atom {rest = rest} h hs)) = node_if-keeps (is_end rest) (one_atom h) (an_atom h hs)
    as_node-keeps (result (an_or {rest = rest} kids hs)) = node_if-keeps (is_end rest) (one_or (deeper kids)) (an_or kids hs)

    -- Simplifying a tree of a block gives a formed tree of no deeper nesting.
    pub simplify-keeps : (n : ℕ) {tree : Node Placed} → TreeAlternates (GivenAt Form) 5 tree → TreeAlternates (FormedAt Form) 5 (simplify n tree)
    unfolding simplify
    simplify-keeps n (one_atom h) = as_node-keeps (rule-keeps n 5 (an_atom h no_parts))
    simplify-keeps n (one_and kids) = as_node-keeps (rule-keeps n 5 kids)
    simplify-keeps n (one_or kids) = tree-dual formed-complemented (as_node-keeps (rule-keeps n 5 (alternates-dual given-complemented kids)))
