-- 01, "A level": the AND rule in its six steps, the OR rule by complement and exchange, and the whole tree; 02, #105: each atom with its place.
-- Crate ending_laws says that the turns of the way back to step 2, and the nestings of the rules, are always enough.
use Rattle.std.specs.Prelude.{Bool, true, false, List, [], ◌∷◌, ◌++◌, map, ℕ, zero, suc, ◌+◌, eqb, ℤ}
use Rattle.std.proofs.Math.Option.{Option, none, some}
use Rattle.rules.specs.Signs.{SignSet, empty, full, sign_of, has, complement, intersect, inside}
use Rattle.rules.specs.Polynomial.{Polynomial, Atom, same, normal, constant}
use Rattle.rules.specs.Rounds.{State, Outcome, contradiction, settled, run, says, says_in, carried}
use Rattle.rules.specs.Formula.{Parts, end, atom, and, or, Node, leaf, all_of, any_of, is_end, in_order, atoms}

-- ---- 02, #105: "Every working atom shall carry its place: the number, from 0, of the input atom in reading order."
pub record Placed : Type 0 where
  pub polynomial : Polynomial
  pub set : SignSet
  pub place : ℕ

-- The atom without its place: what deductions and rounds are asked about.
abbrev pub plain : Placed → Atom
plain a = record { polynomial = a.polynomial; set = a.set }

abbrev pub plains : List Placed → List Atom
plains l = map plain l

-- "a cut or moved atom keeps its own": another set, or another atom, at the same place.
abbrev pub with_set : Placed → SignSet → Placed
with_set a s = record { polynomial = a.polynomial; set = s; place = a.place }

abbrev pub placed_at : ℕ → Atom → Placed
placed_at k a = record { polynomial = a.polynomial; set = a.set; place = k }

abbrev pub Formula : Type 0
Formula = Parts Placed

-- The atoms of an input in reading order, parent before children, have the places from k on; ANDs and ORs are not counted.
unfoldable pub placed_from : ℕ → Parts Atom → Formula
placed_from k end = end
placed_from k (atom a rest) = atom (placed_at k a) (placed_from (1 + k) rest)
placed_from k (and kids rest) = and (placed_from k kids) (placed_from (k + atoms kids) rest)
placed_from k (or kids rest) = or (placed_from k kids) (placed_from (k + atoms kids) rest)

unfoldable pub placed_tree : Node Atom → Node Placed
placed_tree (leaf a) = leaf (placed_at 0 a)
placed_tree (all_of kids) = all_of (placed_from 0 kids)
placed_tree (any_of kids) = any_of (placed_from 0 kids)

-- The places of a formula's atoms: "one for each atom of the answer in order".
unfoldable pub places : Formula → List ℕ
places f = map (λ (a : Placed). a.place) (in_order f)

-- "OR: complement all sets and exchange AND and OR below"
unfoldable pub complemented : Placed → Placed
complemented a = with_set a (complement a.set)

unfoldable pub dual : Formula → Formula
dual end = end
dual (atom a rest) = atom (complemented a) (dual rest)
dual (and kids rest) = or (dual kids) (dual rest)
dual (or kids rest) = and (dual kids) (dual rest)

unfoldable pub dual_node : Node Placed → Node Placed
dual_node (leaf a) = leaf (complemented a)
dual_node (all_of kids) = any_of (dual kids)
dual_node (any_of kids) = all_of (dual kids)

-- The direct atoms of an AND and its OR children, each in order. (An AND under it, which no block has, would count as its own parts.)
unfoldable pub atoms_of : Formula → List Placed
atoms_of end = []
atoms_of (atom a rest) = a ∷ atoms_of rest
atoms_of (and kids rest) = atoms_of kids ++ atoms_of rest
atoms_of (or kids rest) = atoms_of rest

unfoldable pub ors_of : Formula → List Formula
ors_of end = []
ors_of (atom a rest) = ors_of rest
ors_of (and kids rest) = ors_of kids ++ ors_of rest
ors_of (or kids rest) = kids ∷ ors_of rest

-- ---- An OR child that comes back, from step 1 or from step 4.
-- "False: the node is false at once". "An atom joins the end of the atom list. An AND is spliced: its atoms go to the end of the list, its ORs to
-- the child's place, not simplified again." "True: dropped": true is an AND with no parts, and splicing that leaves nothing. Else the child stays.
pub data Entry : Type 0 where
  fails : Entry
  joins : List Placed → List Formula → Entry
  stays : Formula → Entry

unfoldable pub joins_if : Bool → List Placed → List Formula → Formula → Entry
joins_if true l ors child = joins l ors
joins_if false l ors child = stays child

unfoldable pub enter : Formula → Entry
enter end = fails
enter (atom a rest) = joins_if (is_end rest) (a ∷ []) [] (atom a rest)
enter (and kids rest) = joins_if (is_end rest) (atoms_of kids) (ors_of kids) (and kids rest)
enter (or kids rest) = stays (or kids rest)

-- What a walk over the OR children finds: a false one; the children, none of which joined or was spliced; or the children and the atoms that joined.
pub data Walk : Type 0 where
  falls : Walk
  still : List Formula → Walk
  moved : List Placed → List Formula → Walk

unfoldable pub add : Entry → Walk → Walk
add fails walk = falls
add (joins l ors) falls = falls
add (joins l ors) (still later) = moved l (ors ++ later)
add (joins l ors) (moved m later) = moved (l ++ m) (ors ++ later)
add (stays child) falls = falls
add (stays child) (still later) = still (child ∷ later)
add (stays child) (moved m later) = moved m (child ∷ later)

-- ---- Step 1. "The atom list starts as the node's direct atoms, in order. Simplify each OR child, in order, by the OR rule."
unfoldable pub gather : (Formula → Formula) → List Formula → Walk
gather or_rule [] = still []
gather or_rule (child ∷ later) = let walk = gather or_rule later in add (enter (or_rule child)) walk

-- ---- Step 2. "Bring atoms to normal form; atoms of one polynomial become one at the first's place with the intersected set. Full or true: dropped.
-- Empty or false: the node is false." 02, #105: "A merged atom keeps the place of the one it is merged into": of the first in the list.
pub data Tidied : Type 0 where
  broken : Tidied
  tidied : List Placed → Tidied

unfoldable pub merged_if : Bool → Placed → Placed → List Placed → List Placed → List Placed
merged_if true a first later merged = with_set first (intersect first.set a.set) ∷ later
merged_if false a first later merged = first ∷ merged

-- an atom into a list that has each polynomial once
unfoldable pub merge_into : Placed → List Placed → List Placed
merge_into a [] = a ∷ []
merge_into a (first ∷ later) = merged_if (same a.polynomial first.polynomial) a first later (merge_into a later)

unfoldable pub merge_constant : Bool → List Placed → (List Placed → Tidied) → Tidied
merge_constant true l more = more l
merge_constant false l more = broken

unfoldable pub merge_normal : Option ℤ → Placed → List Placed → (List Placed → Tidied) → Tidied
merge_normal none a l more = more (merge_into a l)
merge_normal (some c) a l more = merge_constant (has (sign_of c) a.set) l more

unfoldable pub normal_placed : Placed → Placed
normal_placed a = placed_at a.place (normal (plain a))

unfoldable pub merge : List Placed → List Placed → Tidied
merge l [] = tidied l
merge l (a ∷ later) = merge_normal (constant (normal_placed a).polynomial) (normal_placed a) l (λ (m : List Placed). merge m later)

unfoldable pub kept_if : Bool → Bool → Placed → Tidied → Tidied
kept_if true is_full a rest = broken
kept_if false true a rest = rest
kept_if false false a broken = broken
kept_if false false a (tidied l) = tidied (a ∷ l)

unfoldable pub without_full : List Placed → Tidied
without_full [] = tidied []
without_full (a ∷ l) = kept_if (eqb a.set empty) (eqb a.set full) a (without_full l)

unfoldable pub after_merging : Tidied → Tidied
after_merging broken = broken
after_merging (tidied l) = without_full l

unfoldable pub tidy : List Placed → Tidied
tidy l = after_merging (merge [] l)

-- ---- Step 3 is `run` and `carried` of Rounds: "Run the rounds; contradiction makes the node false. Atoms now carry the cut sets": the sets of the
-- list's atoms, one for each, in order.
unfoldable pub carry : List Placed → List Atom → List Placed
carry [] cut = []
carry (a ∷ l) [] = a ∷ l
carry (a ∷ l) (c ∷ cut) = with_set a c.set ∷ carry l cut

-- ---- Step 4. "For each OR child, each direct atom (p, s) in order: if what the list says of p lies inside s, the child is dropped; else s becomes
-- the intersection, and an empty s drops the atom." A dropped child is none.
unfoldable pub unless_dropped : (Formula → Formula) → Option Formula → Option Formula
unless_dropped f none = none
unless_dropped f (some rest) = some (f rest)

unfoldable pub pruned_if : Bool → Bool → Placed → Option Formula → Option Formula
pruned_if true is_empty a rest = none
pruned_if false true a rest = rest
pruned_if false false a rest = unless_dropped (atom a) rest

unfoldable pub prune : ℕ → State → Formula → Option Formula
prune n st end = some end
prune n st (and kids rest) = unless_dropped (and kids) (prune n st rest)
prune n st (or kids rest) = unless_dropped (or kids) (prune n st rest)
prune n st (atom a rest) =
    let said = says_in n st a.polynomial in
    let cut = intersect a.set said in
    let pruned = prune n st rest in
    pruned_if (inside said a.set) (eqb cut empty) (with_set a cut) pruned

-- "A child with nothing left makes the node false at once; with one part left it joins or is spliced as in 1. The list here is the one that step 3
-- left: joins and splices take effect after the last child, in child order."
unfoldable pub add_pruned : Option Formula → Walk → Walk
add_pruned none walk = walk
add_pruned (some child) walk = add (enter child) walk

unfoldable pub sweep : ℕ → State → List Formula → Walk
sweep n st [] = still []
sweep n st (child ∷ later) = let walk = sweep n st later in add_pruned (prune n st child) walk

-- ---- Step 5. "In order, an atom is removed if what the other remaining atoms (rounds run afresh on them alone) say of it lies inside its carried set."
unfoldable pub kept_unless : {A : Type 0} → Bool → A → List A → List A
kept_unless true a kept = kept
kept_unless false a kept = kept ++ (a ∷ [])

unfoldable pub implied : ℕ → List Atom → Atom → Bool
implied n others a = inside (says n (run n others) a.polynomial) a.set

unfoldable pub remove_implied : ℕ → List Placed → List Placed → List Placed
remove_implied n kept [] = kept
remove_implied n kept (a ∷ later) = remove_implied n (kept_unless (implied n (plains (kept ++ later)) (plain a)) a kept) later

-- ---- Step 6. "Result: atoms, then ORs, in order."
unfoldable pub or_parts : List Formula → Formula
or_parts [] = end
or_parts (child ∷ later) = or child (or_parts later)

unfoldable pub parts : List Placed → List Formula → Formula
parts [] ors = or_parts ors
parts (a ∷ l) ors = atom a (parts l ors)

-- "the node is false": the parts of an AND with one part, an OR with no children
unfoldable pub never : Formula
never = or end end

-- ---- Steps 2 to 6 in a row. "If any did, go to 2": again is that way back, with the atoms and the OR children now.
abbrev pub Again : Type 0
Again = List Placed → List Formula → Formula

unfoldable pub after_sweep : ℕ → List Placed → Walk → Again → Formula
after_sweep n l falls again = never
after_sweep n l (still ors) again = parts (remove_implied n [] l) ors
after_sweep n l (moved new ors) again = again (l ++ new) ors

unfoldable pub after_rounds : ℕ → List Placed → Outcome → List Formula → Again → Formula
after_rounds n l contradiction ors again = never
after_rounds n l (settled st) ors again = after_sweep n (carry l (carried n st.board (plains l) st.atoms)) (sweep n st ors) again

unfoldable pub after_tidy : ℕ → Tidied → List Formula → Again → Formula
after_tidy n broken ors again = never
after_tidy n (tidied l) ors again = after_rounds n l (run n (plains l)) ors again

-- At most k turns.
unfoldable pub settle : ℕ → ℕ → List Placed → List Formula → Formula
settle n zero l ors = parts l ors
settle n (suc k) l ors = after_tidy n (tidy l) ors (λ (m : List Placed) (later : List Formula). settle n k m later)

-- Each way back takes at least one AND or OR out of the children, so one turn more than they have is enough: law `no-turn-missing`.
unfoldable pub inner : Formula → ℕ
inner end = 0
inner (atom a rest) = inner rest
inner (and kids rest) = 1 + inner kids + inner rest
inner (or kids rest) = 1 + inner kids + inner rest

unfoldable pub inner_all : List Formula → ℕ
inner_all [] = 0
inner_all (child ∷ later) = 1 + inner child + inner_all later

unfoldable pub settled_down : ℕ → List Placed → List Formula → Formula
settled_down n l ors = settle n (1 + inner_all ors) l ors

unfoldable pub after_gather : ℕ → List Placed → Walk → Formula
after_gather n l falls = never
after_gather n l (still ors) = settled_down n l ors
after_gather n l (moved new ors) = settled_down n (l ++ new) ors

-- "The AND rule and the OR rule call one another, each time one nesting lower": d nestings are left.
-- The parts of an AND go in, the parts of an AND come back.
unfoldable pub and_rule : ℕ → ℕ → Formula → Formula
and_rule n zero kids = kids
and_rule n (suc d) kids = after_gather n (atoms_of kids) (gather (λ (child : Formula). dual (and_rule n d (dual child))) (ors_of kids))

-- "OR: complement all sets and exchange AND and OR below, apply the AND rule, complement and exchange back."
unfoldable pub or_rule : ℕ → ℕ → Formula → Formula
or_rule n d kids = dual (and_rule n d (dual kids))

-- Step 6: "One part: that part. None: true."
unfoldable pub node_if : Bool → Node Placed → Formula → Node Placed
node_if true one kids = one
node_if false one kids = all_of kids

unfoldable pub as_node : Formula → Node Placed
as_node end = all_of end
as_node (atom a rest) = node_if (is_end rest) (leaf a) (atom a rest)
as_node (and kids rest) = node_if (is_end rest) (all_of kids) (and kids rest)
as_node (or kids rest) = node_if (is_end rest) (any_of kids) (or kids rest)

-- "AND/OR nesting is at most 6, the root counting 1." "A root atom is an AND of one."
unfoldable pub simplify : ℕ → Node Placed → Node Placed
simplify n (leaf a) = as_node (and_rule n 6 (atom a end))
simplify n (all_of kids) = as_node (and_rule n 6 kids)
simplify n (any_of kids) = dual_node (as_node (and_rule n 6 (dual kids)))

-- To unfold this is to unfold every definition of this file.
unfoldable pub open_level : Unit {0}
unfolding placed_from placed_tree places complemented dual dual_node atoms_of ors_of joins_if enter add gather merged_if merge_into merge_constant merge_normal normal_placed merge kept_if without_full after_merging tidy carry unless_dropped pruned_if prune add_pruned sweep kept_unless implied remove_implied or_parts parts never after_sweep after_rounds after_tidy settle inner inner_all settled_down after_gather and_rule or_rule node_if as_node simplify
open_level = tt
