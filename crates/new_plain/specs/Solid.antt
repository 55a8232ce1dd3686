-- 01, "A level": what the rules make of the parts of an AND has no set empty or full, and two parts at least in each AND and OR below; or it is false.
use Rattle.std.specs.Prelude.{◌≡◌, refl, Bool, true, false, List, [], ◌∷◌, ◌++◌, ℕ, zero, suc, ◌<◌, ◌≤◌, ℤ, eqb}
use Rattle.std.proofs.Common.{sym, subst, one-add, arith}
use Rattle.std.proofs.lemmas.Bool.{false≢true, eqb-false}
use Rattle.std.proofs.Math.Option.{Option, none, some}
use Rattle.rules.specs.Signs.{SignSet, sign_of, has, empty, full, intersect, inside}
use Rattle.rules.specs.Polynomial.{Polynomial, Atom, same, constant}
use Rattle.rules.specs.Rounds.{State, Outcome, contradiction, settled, run, says_in}
use Rattle.rules.specs.Formula.{end, atom, and, or, Node, leaf, all_of, any_of, is_end, children, open_formula}
use Rattle.rules.specs.Level.{Placed, plain, plains, with_set, complemented, Formula, dual, dual_node, atoms_of, ors_of, Entry, fails, joins, stays, joins_if, enter}
use Rattle.rules.specs.Level.{Walk, falls, still, moved, add, gather}
use Rattle.rules.specs.Level.{Tidied, broken, tidied, merged_if, merge_into, merge_constant, merge_normal, normal_placed, merge, kept_if, without_full, after_merging, tidy}
use Rattle.rules.specs.Level.{carry, unless_dropped, pruned_if, prune, add_pruned, sweep, kept_unless, implied, remove_implied, or_parts, parts, never, Again, after_sweep}
use Rattle.rules.specs.Level.{after_rounds, after_tidy, settle, inner_all, settled_down, after_gather, and_rule, node_if, as_node, simplify, open_level}
use Rattle.sign_laws.specs.Sets.{intersect-first, intersect-below, complement-below}
use Rattle.sign_laws.specs.Lists.{Every, every_none, every, every_append}
use Rattle.normal_laws.specs.Shape.{normal-small}
use Rattle.length_laws.specs.Alternation.{Join, AND, OR, other, Alternates, no_parts, an_atom, an_and, an_or, alternates-dual, Child, child}
use Rattle.length_laws.specs.Alternation.{direct-atoms, or-children, TreeAlternates, one_atom, one_and, one_or}
use Rattle.new_plain.specs.Proper.{Proper, ProperAt, AllProper, complement-proper, part-proper, run-proper, carry-proper, plain-sets}

-- An atom as a block gives it: its set has three bits.
pub record Low (a : Placed) : Type 0 where
  pub bits : a.set < 8

-- The parts of a node of this kind: proper sets, and two parts at least in each AND and OR below.
pub data Solid : Join → Formula → Type 0 where
  solid_end : {join : Join} → Solid join end
  solid_atom : {join : Join} {a : Placed} {rest : Formula} → ProperAt a → Solid join rest → Solid join (atom a rest)
  solid_and : {kids rest : Formula} → 2 ≤ children kids → Solid AND kids → Solid OR rest → Solid OR (and kids rest)
  solid_or : {kids rest : Formula} → 2 ≤ children kids → Solid OR kids → Solid AND rest → Solid AND (or kids rest)

-- An OR child of an AND.
pub record SolidChild (f : Formula) : Type 0 where
  pub many : 2 ≤ children f
  pub solid : Solid OR f

data Result : Formula → Type 0 where
  false_result : Result (or end end)
  result : {f : Formula} → Solid AND f → Result f

data EntrySolid : Entry → Type 0 where
  it_fails : EntrySolid fails
  it_joins : {l : List Placed} {ors : List Formula} → AllProper l → Every SolidChild ors → EntrySolid (joins l ors)
  it_stays : {f : Formula} → SolidChild f → EntrySolid (stays f)

data WalkSolid : Walk → Type 0 where
  it_falls : WalkSolid falls
  are_still : {ors : List Formula} → Every SolidChild ors → WalkSolid (still ors)
  have_moved : {l : List Placed} {ors : List Formula} → AllProper l → Every SolidChild ors → WalkSolid (moved l ors)

data PrunedSolid : Option Formula → Type 0 where
  dropped : PrunedSolid none
  left : {f : Formula} → Solid OR f → PrunedSolid (some f)

data TidiedProper : Tidied → Type 0 where
  is_broken : TidiedProper broken
  is_tidied : {l : List Placed} → AllProper l → TidiedProper (tidied l)

data TidiedLow : Tidied → Type 0 where
  low_broken : TidiedLow broken
  low_tidied : {l : List Placed} → Every Low l → TidiedLow (tidied l)

record Keeps (again : Again) : Type 0 where
  back : (l : List Placed) (ors : List Formula) → AllProper l → Every SolidChild ors → Result (again l ors)

-- ---- Complement and exchange.

children-dual : (f : Formula) → children (dual f) ≡ children f
unfolding dual children
children-dual end = refl
children-dual (atom a rest) = rw (children-dual rest) refl
children-dual (and kids rest) = rw (children-dual rest) refl
children-dual (or kids rest) = rw (children-dual rest) refl

complemented-proper : {a : Placed} → ProperAt a → ProperAt (complemented a)
unfolding complemented
complemented-proper {a} h = record { proper = complement-proper a.set h.proper }

solid-dual : {join : Join} {f : Formula} → Solid join f → Solid (other join) (dual f)
unfolding dual
solid-dual solid_end = solid_end
solid-dual (solid_atom h hs) = solid_atom (complemented-proper h) (solid-dual hs)
solid-dual (solid_and {kids = kids} m ks hs) = solid_or {kids = dual kids} (omega (arith, m, children-dual kids)) (solid-dual ks) (solid-dual hs)
solid-dual (solid_or {kids = kids} m ks hs) = solid_and {kids = dual kids} (omega (arith, m, children-dual kids)) (solid-dual ks) (solid-dual hs)

-- ---- Steps 1 and 4.

solid-atoms : {f : Formula} → Solid AND f → AllProper (atoms_of f)
unfolding atoms_of
solid-atoms solid_end = every_none
solid-atoms (solid_atom h hs) = every h (solid-atoms hs)
solid-atoms (solid_or m ks hs) = solid-atoms hs

solid-ors : {f : Formula} → Solid AND f → Every SolidChild (ors_of f)
unfolding ors_of
solid-ors solid_end = every_none
solid-ors (solid_atom h hs) = solid-ors hs
solid-ors (solid_or m ks hs) = every (record { many = m; solid = ks }) (solid-ors hs)

some-children : (rest : Formula) → is_end rest ≡ false → 1 ≤ children rest
unfolding is_end children
some-children end e = absurd (false≢true (sym e))
some-children (atom a rest) e = omega arith
some-children (and kids rest) e = omega arith
some-children (or kids rest) e = omega arith

joins_if-solid : (b : Bool) {l : List Placed} {ors : List Formula} {f : Formula} → AllProper l → Every SolidChild ors → (b ≡ false → SolidChild f)
    → EntrySolid (joins_if b l ors f)
unfolding joins_if
joins_if-solid true l ors f = it_joins l ors
joins_if-solid false l ors f = it_stays (f refl)

enter-solid : {f : Formula} → Solid OR f → EntrySolid (enter f)
unfolding enter children
enter-solid solid_end = it_fails
enter-solid (solid_atom {rest = rest} h hs) =
    joins_if-solid (is_end rest) (every h every_none) every_none (λ e. record { many = omega (arith, some-children rest e); solid = solid_atom h hs })
enter-solid (solid_and {rest = rest} m ks hs) =
    joins_if-solid (is_end rest) (solid-atoms ks) (solid-ors ks) (λ e. record { many = omega (arith, some-children rest e); solid = solid_and m ks hs })

add-solid : {entry : Entry} {walk : Walk} → EntrySolid entry → WalkSolid walk → WalkSolid (add entry walk)
unfolding add
add-solid it_fails walk = it_falls
add-solid (it_joins l ors) it_falls = it_falls
add-solid (it_joins l ors) (are_still later) = have_moved l (every_append ors later)
add-solid (it_joins l ors) (have_moved m later) = have_moved (every_append l m) (every_append ors later)
add-solid (it_stays f) it_falls = it_falls
add-solid (it_stays f) (are_still later) = are_still (every f later)
add-solid (it_stays f) (have_moved m later) = have_moved m (every f later)

gather-solid : {d : ℕ} (rule : Formula → Formula) → ((f : Formula) → Child Low d f → EntrySolid (enter (rule f)))
    → {ors : List Formula} → Every (Child Low d) ors → WalkSolid (gather rule ors)
unfolding gather
gather-solid rule h every_none = are_still every_none
gather-solid rule h (every {a = f} k ks) = add-solid (h f k) (gather-solid rule h ks)

pruned_if-solid : (b c : Bool) {a : Placed} {o : Option Formula} → (c ≡ false → ProperAt a) → PrunedSolid o → PrunedSolid (pruned_if b c a o)
unfolding pruned_if unless_dropped
pruned_if-solid true c h o = dropped
pruned_if-solid false true h o = o
pruned_if-solid false false h dropped = dropped
pruned_if-solid false false h (left rest) = left (solid_atom (h refl) rest)

unless_dropped-solid : {kids : Formula} {o : Option Formula} → 2 ≤ children kids → Solid AND kids → PrunedSolid o → PrunedSolid (unless_dropped (and kids) o)
unfolding unless_dropped
unless_dropped-solid m kids dropped = dropped
unless_dropped-solid m kids (left rest) = left (solid_and m kids rest)

prune-solid : (n : ℕ) (st : State) {f : Formula} → Solid OR f → PrunedSolid (prune n st f)
unfolding prune
prune-solid n st solid_end = left solid_end
prune-solid n st (solid_atom {a = a} h rest) =
    let said = says_in n st a.polynomial in
    let cut = intersect a.set said in
    pruned_if-solid (inside said a.set) (eqb cut empty)
    (λ e. record { proper = part-proper h.proper (intersect-first a.set said) (intersect-below a.set said) (eqb-false cut empty e) }) (prune-solid n st rest)
prune-solid n st (solid_and m kids rest) = unless_dropped-solid m kids (prune-solid n st rest)

add_pruned-solid : {o : Option Formula} {walk : Walk} → PrunedSolid o → WalkSolid walk → WalkSolid (add_pruned o walk)
unfolding add_pruned
add_pruned-solid dropped walk = walk
add_pruned-solid (left f) walk = add-solid (enter-solid f) walk

sweep-solid : (n : ℕ) (st : State) {ors : List Formula} → Every SolidChild ors → WalkSolid (sweep n st ors)
unfolding sweep
sweep-solid n st every_none = are_still every_none
sweep-solid n st (every h later) = add_pruned-solid (prune-solid n st h.solid) (sweep-solid n st later)

-- ---- Step 2: sets of three bits, of which the empty and the full ones go.

merged_if-low : (b : Bool) (a first : Placed) {later merged : List Placed} → Low first → Every Low later → Every Low merged → Every Low (merged_if b a first later merged)
unfolding merged_if
merged_if-low true a first h hs ks = every (record { bits = intersect-below first.set a.set }) hs
merged_if-low false a first h hs ks = every h ks

merge_into-low : {a : Placed} {l : List Placed} → Low a → Every Low l → Every Low (merge_into a l)
unfolding merge_into
merge_into-low h every_none = every h every_none
merge_into-low {a} h (every {a = first} k ks) = merged_if-low (same a.polynomial first.polynomial) a first k ks (merge_into-low h ks)

merge_constant-low : (b : Bool) {l : List Placed} (more : List Placed → Tidied) → Every Low l → ((m : List Placed) → Every Low m → TidiedLow (more m))
    → TidiedLow (merge_constant b l more)
unfolding merge_constant
merge_constant-low true {l} more h k = k l h
merge_constant-low false more h k = low_broken

merge_normal-low : (o : Option ℤ) {a : Placed} {l : List Placed} (more : List Placed → Tidied) → Low a → Every Low l
    → ((m : List Placed) → Every Low m → TidiedLow (more m)) → TidiedLow (merge_normal o a l more)
unfolding merge_normal
merge_normal-low none {a} {l} more g h k = k (merge_into a l) (merge_into-low g h)
merge_normal-low (some c) {a} more g h k = merge_constant-low (has (sign_of c) a.set) more h k

merge_low : {l later : List Placed} → Every Low l → Every Low later → TidiedLow (merge l later)
unfolding merge normal_placed
merge_low h every_none = low_tidied h
merge_low h (every {a} {l = later} k ks) =
    merge_normal-low (constant (normal_placed a).polynomial) (λ (m : List Placed). merge m later) (record { bits = normal-small (plain a) k.bits }) h (λ m hs. merge_low hs ks)

kept_if-proper : (b c : Bool) {a : Placed} {t : Tidied} → (b ≡ false → c ≡ false → ProperAt a) → TidiedProper t → TidiedProper (kept_if b c a t)
unfolding kept_if
kept_if-proper true c h k = is_broken
kept_if-proper false true h k = k
kept_if-proper false false h is_broken = is_broken
kept_if-proper false false h (is_tidied ks) = is_tidied (every (h refl refl) ks)

without_full-proper : {l : List Placed} → Every Low l → TidiedProper (without_full l)
unfolding without_full
without_full-proper every_none = is_tidied every_none
without_full-proper (every {a} h hs) = kept_if-proper (eqb a.set empty) (eqb a.set full)
    (λ e u. record { proper = record { some = omega (arith, eqb-false a.set empty e); not_all = omega (arith, h.bits, eqb-false a.set full u) } })
    (without_full-proper hs)

after_merging-proper : {t : Tidied} → TidiedLow t → TidiedProper (after_merging t)
unfolding after_merging
after_merging-proper low_broken = is_broken
after_merging-proper (low_tidied h) = without_full-proper h

tidy-proper : {l : List Placed} → Every Low l → TidiedProper (tidy l)
unfolding tidy
tidy-proper h = after_merging-proper (merge_low every_none h)

-- ---- Step 5.

kept_unless-proper : (b : Bool) {a : Placed} {kept : List Placed} → ProperAt a → AllProper kept → AllProper (kept_unless b a kept)
unfolding kept_unless
kept_unless-proper true h k = k
kept_unless-proper false h k = every_append k (every h every_none)

remove_implied-proper : (n : ℕ) {kept l : List Placed} → AllProper kept → AllProper l → AllProper (remove_implied n kept l)
unfolding remove_implied
remove_implied-proper n k every_none = k
remove_implied-proper n {kept} k (every {a} {l = later} h hs) =
    remove_implied-proper n {kept = kept_unless (implied n (plains (kept ++ later)) (plain a)) a kept} (kept_unless-proper (implied n (plains (kept ++ later)) (plain a)) h k) hs

-- ---- Step 6, and the steps in a row.

or_parts-solid : {ors : List Formula} → Every SolidChild ors → Solid AND (or_parts ors)
unfolding or_parts
or_parts-solid every_none = solid_end
or_parts-solid (every h hs) = solid_or h.many h.solid (or_parts-solid hs)

parts-solid : {l : List Placed} {ors : List Formula} → AllProper l → Every SolidChild ors → Solid AND (parts l ors)
unfolding parts
parts-solid every_none ors = or_parts-solid ors
parts-solid (every h hs) ors = solid_atom h (parts-solid hs ors)

proper-low : {l : List Placed} → AllProper l → Every Low l
proper-low every_none = every_none
proper-low (every {a = a} h hs) = every {a = a} (record { bits = omega (arith, h.proper.not_all) }) (proper-low hs)

after_sweep-keeps : (n : ℕ) {l : List Placed} {walk : Walk} (again : Again) → Keeps again → AllProper l → WalkSolid walk → Result (after_sweep n l walk again)
unfolding open_level
after_sweep-keeps n again h l it_falls = false_result
after_sweep-keeps n again h l (are_still ors) = result (parts-solid (remove_implied-proper n every_none l) ors)
after_sweep-keeps n {l = atoms} again h l (have_moved {l = new} {ors = later} m ors) = h.back (atoms ++ new) later (every_append l m) ors

after_rounds-keeps : (n : ℕ) {l : List Placed} {ors : List Formula} (again : Again) → Keeps again → AllProper l
    → (outcome : Outcome) → run n (plains l) ≡ outcome → Every SolidChild ors → Result (after_rounds n l outcome ors again)
unfolding open_level
after_rounds-keeps n again h l contradiction e ors = false_result
after_rounds-keeps n {l = list} again h l (settled st) e ors =
    after_sweep-keeps n again h (carry-proper l (run-proper n (plains list) e (plain-sets l))) (sweep-solid n st ors)

after_tidy-keeps : (n : ℕ) {t : Tidied} {ors : List Formula} (again : Again) → Keeps again → TidiedProper t → Every SolidChild ors → Result (after_tidy n t ors again)
unfolding open_level
after_tidy-keeps n again h is_broken ors = false_result
after_tidy-keeps n again h (is_tidied {l = list} l) ors = after_rounds-keeps n again h l (run n (plains list)) refl ors

-- The turns after the first find the sets proper.
settle-keeps : (n k : ℕ) {l : List Placed} {ors : List Formula} → AllProper l → Every SolidChild ors → Result (settle n k l ors)
unfolding settle
settle-keeps n zero l ors = result (parts-solid l ors)
settle-keeps n (suc k) l ors =
    after_tidy-keeps n (λ (m : List Placed) (later : List Formula). settle n k m later) (record { back = λ m later hs ks. settle-keeps n k hs ks })
    (tidy-proper (proper-low l)) ors

first-turn : (n k : ℕ) {l : List Placed} {ors : List Formula} → Every Low l → Every SolidChild ors → Result (settle n (suc k) l ors)
unfolding settle
first-turn n k l ors =
    after_tidy-keeps n (λ (m : List Placed) (later : List Formula). settle n k m later) (record { back = λ m later hs ks. settle-keeps n k hs ks }) (tidy-proper l) ors

settled-keeps : (n : ℕ) {l : List Placed} {ors : List Formula} → Every Low l → Every SolidChild ors → Result (settled_down n l ors)
unfolding settled_down
settled-keeps n {ors = later} l ors = rw (one-add (inner_all later)) (first-turn n (inner_all later) l ors)

after_gather-keeps : (n : ℕ) {l : List Placed} {walk : Walk} → Every Low l → WalkSolid walk → Result (after_gather n l walk)
unfolding after_gather never
after_gather-keeps n l it_falls = false_result
after_gather-keeps n l (are_still ors) = settled-keeps n l ors
after_gather-keeps n l (have_moved new ors) = settled-keeps n (every_append l (proper-low new)) ors

-- ---- The rules.

low-complemented : (a : Placed) → Low a → Low (complemented a)
unfolding complemented
low-complemented a h = record { bits = complement-below a.set }

enter-result : {f : Formula} → Result f → EntrySolid (enter (dual f))
unfolding enter dual open_formula joins_if atoms_of ors_of
enter-result false_result = it_joins every_none every_none
enter-result (result h) = enter-solid (solid-dual h)

rule-by-children : (n : ℕ) {d : ℕ} {kids : Formula} → ((f : Formula) → Child Low d f → EntrySolid (enter (dual (and_rule n d (dual f)))))
    → Alternates Low AND d kids → Result (and_rule n (suc d) kids)
unfolding and_rule
rule-by-children n {d} h kids = after_gather-keeps n (direct-atoms kids) (gather-solid (λ (f : Formula). dual (and_rule n d (dual f))) h (or-children kids))

rule-keeps : (n d : ℕ) {kids : Formula} → Alternates Low AND d kids → Result (and_rule n (suc d) kids)
rule-keeps n zero kids = rule-by-children n no-child kids
  where
    no-child : (f : Formula) → Child Low 0 f → EntrySolid (enter (dual (and_rule n 0 (dual f))))
    no-child f h = elim h [ ]
rule-keeps n (suc d) kids = rule-by-children n (λ f h. each-child f h (λ g kept. rule-keeps n d kept)) kids
  where
    each-child : (f : Formula) → Child Low (suc d) f → ((g : Formula) → Alternates Low AND d g → Result (and_rule n (suc d) g))
        → EntrySolid (enter (dual (and_rule n (suc d) (dual f))))
    each-child f (child h) keeps = enter-result (keeps (dual f) (alternates-dual low-complemented h))

-- ---- Step 6 at the root, and the whole tree.

-- True, false, an atom with a proper set, or an AND or OR of two parts at least.
pub data SolidTree : Node Placed → Type 0 where
  solid_true : SolidTree (all_of end)
  solid_false : SolidTree (any_of end)
  solid_leaf : {a : Placed} → ProperAt a → SolidTree (leaf a)
  solid_all : {kids : Formula} → 2 ≤ children kids → Solid AND kids → SolidTree (all_of kids)
  solid_any : {kids : Formula} → 2 ≤ children kids → Solid OR kids → SolidTree (any_of kids)

node_if-solid : (b : Bool) {one : Node Placed} {kids : Formula} → SolidTree one → (b ≡ false → SolidTree (all_of kids)) → SolidTree (node_if b one kids)
unfolding node_if
node_if-solid true h k = h
node_if-solid false h k = k refl

as_node-solid : {f : Formula} → Result f → SolidTree (as_node f)
unfolding as_node node_if is_end children
as_node-solid false_result = solid_false
as_node-solid (result solid_end) = solid_true
as_node-solid (result (solid_atom {a = a} {rest = rest} h hs)) =
    node_if-solid (is_end rest) (solid_leaf h) (λ e. solid_all {kids = atom a rest} (omega (arith, some-children rest e)) (solid_atom h hs))
as_node-solid (result (solid_or {kids = kids} {rest = rest} m ks hs)) =
    node_if-solid (is_end rest) (solid_any m ks) (λ e. solid_all {kids = or kids rest} (omega (arith, some-children rest e)) (solid_or m ks hs))

tree-dual : {tree : Node Placed} → SolidTree tree → SolidTree (dual_node tree)
unfolding dual_node dual
tree-dual solid_true = solid_false
tree-dual solid_false = solid_true
tree-dual (solid_leaf h) = solid_leaf (complemented-proper h)
tree-dual (solid_all {kids = kids} m ks) = solid_any {kids = dual kids} (omega (arith, m, children-dual kids)) (solid-dual ks)
tree-dual (solid_any {kids = kids} m ks) = solid_all {kids = dual kids} (omega (arith, m, children-dual kids)) (solid-dual ks)

pub simplify-solid : (n : ℕ) {tree : Node Placed} → TreeAlternates Low 5 tree → SolidTree (simplify n tree)
unfolding simplify
simplify-solid n (one_atom h) = as_node-solid (rule-keeps n 5 (an_atom h no_parts))
simplify-solid n (one_and kids) = as_node-solid (rule-keeps n 5 kids)
simplify-solid n (one_or kids) = tree-dual (as_node-solid (rule-keeps n 5 (alternates-dual low-complemented kids)))
