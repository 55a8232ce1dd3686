-- Step 6 at the root: a level's parts as the tree that they are, and the tree that a tape holds as the rules read it.
use mathlib.Core.Path.{◌≡◌, refl, sym, ◌∙◌, ap, ap₂, subst}
use mathlib.Core.Bool.{Bool, true, false, not}
use mathlib.Core.List.{List, [], ◌∷◌, ◌++◌, map, append-nil}
use Prim.Native.Nat.{ℕ, suc, ◌+◌, ◌-◌, ◌*◌, ◌/◌, ◌%◌, ◌<◌, ◌≤◌, max}
use native.Mathlib.Omega.{arith}
use borrow.Author.Tests.{ne_eqb}
use lib.Dec.{eqb}
use lib.ListN.{length, take, drop, get_or, length-append}
use Rattle.rules.specs.Formula.{Parts, end, atom, and, or, Node, all_of, any_of, each_atom, each_atom_of, alone, before, children, nodes, is_end, open_formula}
use Rattle.rules.specs.Formula as formula
use Rattle.rules.specs.Level.{Formula, complemented, dual, dual_node, Walk, atoms_of, ors_of, still, gather, or_parts, parts, node_if, as_node, and_rule, simplify}
use Rattle.rules.specs.Count.{gather_count, rule_count, most_rounds}
use Rattle.table.specs.Table.{Table}
use Rattle.tape.specs.declared.walks.Level.{Level}
use Rattle.level.specs.declared.writing.Tree.{Tree}
use Rattle.level.specs.declared.nesting.Found.{Found}
use Rattle.level.specs.declared.settling.Finished.{Finished}
use Rattle.tape.specs.Row.{Lists}
use Rattle.tape.specs.Token.{place, atom_of, atoms_in, opposite}
use Rattle.tape.specs.Tape.{Children, none, child, laid, ors_in}
use Rattle.tape.specs.Walked.{Shows, size_of}
use Rattle.level.specs.Source.{Forest, nothing, leaf, branch, count, size, flat, named, meant, seen, Shaped, Below, Holds, Done}
use Rattle.level.specs.Settled.{FinishIs}
use Rattle.level.specs.Tree.{tokens, kind_number, kind_of, TokensWithin, TreeHeld, root_parts, RootIs, ShortenedIs}
use Rattle.level.specs.Written.{told, leaves, forest, how_many, Between, opening, root_of, turned, TreeIs}
use Rattle.tape.specs.Entering.{opposite-is, complemented-twice, dual-twice}
use Rattle.tape.specs.Listing.{whole}
use Rattle.level.proofs.Gathering.{one-or-few}
use Rattle.level.proofs.Telling.{flat-leaves, count-leaves, count-forest}

-- ---- forests and the book's parts

children-named : (b : Bool) (f : Forest) → children (named b f) ≡ count f
unfolding children named
children-named b nothing = refl
children-named b (leaf x f) = omega (arith, children-named b f)
children-named true (branch kids f) = omega (arith, children-named true f)
children-named false (branch kids f) = omega (arith, children-named false f)

nodes-named : (b : Bool) (f : Forest) → nodes (named b f) ≡ size f
unfolding nodes named
nodes-named b nothing = refl
nodes-named b (leaf x f) = omega (arith, nodes-named b f)
nodes-named true (branch kids f) = omega (arith, nodes-named false kids, nodes-named true f)
nodes-named false (branch kids f) = omega (arith, nodes-named true kids, nodes-named false f)

tokens-named : (b : Bool) (f : Forest) → tokens (named b f) ≡ flat f
unfolding tokens named
tokens-named b nothing = refl
tokens-named b (leaf x f) = ap (λ (l : List ℕ). x ∷ l) (tokens-named b f)
tokens-named true (branch kids f) = rw (children-named false kids, tokens-named false kids, tokens-named true f)
tokens-named false (branch kids f) = rw (children-named true kids, tokens-named true kids, tokens-named false f)

named-within : (d : ℕ) (b : Bool) (f : Forest) → Below f → size f ≤ d → TokensWithin d (kind_number b) (named b f)
unfolding TokensWithin named Below
named-within d b nothing h k = tt
named-within d b (leaf x f) h k = (h.0, named-within d b f h.1 (omega arith))
named-within d true (branch kids f) h k = (λ e. absurd (omega arith), omega arith, named-within (d - 1) false kids h.0 (omega arith), named-within d true f h.1 (omega arith))
named-within d false (branch kids f) h k = (λ e. absurd (omega arith), omega arith, named-within (d - 1) true kids h.0 (omega arith), named-within d false f h.1 (omega arith))

-- ---- the formula of a level that is told

-- what comes back from a rule: an AND's parts as they are, an OR's complemented and exchanged
unfoldable back : Bool → Formula → Formula
back true kids = kids
back false kids = dual kids

same-origin : (x : ℕ) → place (x % 16777216) ≡ place x
same-origin x =
    let q : ℕ = x / 16777216 in
    let y : ℕ = x % 16777216 in
    let z : ℕ = y / 512 in
    let parted : x / 512 ≡ q * 32768 + z = omega arith in
    let low : z < 32768 = omega arith in
    let one : z % 32768 ≡ z = omega arith in
    let two : (q * 32768 + z) % 32768 ≡ z = omega arith in
    one ∙ sym (ap (λ (k : ℕ). k % 32768) parted ∙ two)

below-node : (t : Table) (x : ℕ) → atom_of t (x % 16777216) ≡ atom_of t x
unfolding atom_of
below-node t x =
    let a : x % 16777216 / 8 % 64 ≡ x / 8 % 64 = omega arith in
    let b : x % 16777216 % 8 ≡ x % 8 = omega arith in
    rw (a, b, same-origin x)

told-opposite : (t : Table) (x : ℕ) → atom_of t (opposite x % 16777216) ≡ complemented (atom_of t x)
told-opposite t x = below-node t (opposite x) ∙ opposite-is t x

meant-atoms : (t : Table) (b : Bool) (l : List ℕ) (f : Forest) (ors : List Formula) → meant t b f ≡ back b (or_parts ors) → meant t b (leaves b l f) ≡ back b (parts (atoms_in t l) ors)
unfolding back each_atom named parts dual
meant-atoms t true [] f ors h = h
meant-atoms t false [] f ors h = h
meant-atoms t true (x ∷ l) f ors h = ap₂ atom (below-node t x) (meant-atoms t true l f ors h)
meant-atoms t false (x ∷ l) f ors h = ap₂ atom (told-opposite t x) (meant-atoms t false l f ors h)

meant-children : (t : Table) (b : Bool) (children : Children) → meant t b (forest (not b) children) ≡ back b (or_parts (ors_in t children))
unfolding back each_atom named or_parts ors_in dual
meant-children t true none = refl
meant-children t false none = refl
meant-children t true (child l own later) = ap₂ or (meant-atoms t false l (forest true own) (ors_in t own) (meant-children t false own)) (meant-children t true later)
meant-children t false (child l own later) =
    ap₂ and (meant-atoms t true l (forest false own) (ors_in t own) (meant-children t true own) ∙ sym (dual-twice t l own)) (meant-children t false later)

meant-level : (t : Table) (b : Bool) (l : List ℕ) (children : Children) → meant t b (leaves b l (forest (not b) children)) ≡ back b (parts (atoms_in t l) (ors_in t children))
meant-level t b l children = meant-atoms t b l (forest (not b) children) (ors_in t children) (meant-children t b children)

size-leaves : (b : Bool) (l : List ℕ) (f : Forest) → size (leaves b l f) ≡ length l + size f
size-leaves b [] f = omega arith
size-leaves b (x ∷ l) f = omega (arith, size-leaves b l f)

size-forest : (b : Bool) (children : Children) → size (forest b children) ≡ length (laid children)
size-forest b none = refl
size-forest b (child l own later) = omega (
  arith,
  size-leaves b l (forest (not b) own),
  size-forest (not b) own,
  size-forest b later,
  length-append l (laid own ++ laid later),
  length-append (laid own) (laid later),
)

leaves-below : (b : Bool) (l : List ℕ) (f : Forest) → Below f → Below (leaves b l f)
unfolding Below
leaves-below b [] f h = h
leaves-below b (x ∷ l) f h = (omega arith, leaves-below b l f h)

forest-below : (b : Bool) (children : Children) → Below (forest b children)
unfolding Below
forest-below b none = tt
forest-below b (child l own later) = (leaves-below b l (forest (not b) own) (forest-below (not b) own), forest-below b later)

-- ---- the tree of a level

node_of : {A : Type 0} → Bool → Parts A → Node A
node_of true kids = all_of kids
node_of false kids = any_of kids

-- a node with its parts told is a tree
module _ {t : Table} {b : Bool} {kids : Formula} {r : Tree} where
  node-tree : (kind : Bool) (f : Forest) → Below f → size f ≤ 254 → Lists r.tokens ((16777216 + count f) ∷ flat f) → r.root ≡ kind_number kind
      → node_of kind (meant t kind f) ≡ turned b (as_node kids) → TreeIs t b kids r
  unfolding node_of tokens each_atom_of TokensWithin open_formula
  node-tree true f below small lists root e = record {
    result = all_of (named true f);
    lists = rw (children-named true f, append-nil (tokens (named true f)), tokens-named true f) lists;
    root = root;
    is = e;
    few = omega (arith, nodes-named true f);
    within = (λ z. absurd (omega arith), omega arith, named-within 254 true f below small, tt);
  }
  node-tree false f below small lists root e = record {
    result = any_of (named false f);
    lists = rw (children-named false f, append-nil (tokens (named false f)), tokens-named false f) lists;
    root = root;
    is = e;
    few = omega (arith, nodes-named false f);
    within = (λ z. absurd (omega arith), omega arith, named-within 254 false f below small, tt);
  }

-- one atom
atom-tree : (t : Table) (b : Bool) (x : ℕ) (r : Tree) → Lists r.tokens (told b x ∷ []) → r.root ≡ 0 → TreeIs t b (parts (atoms_in t (x ∷ [])) (ors_in t none)) r
unfolding tokens each_atom_of TokensWithin open_formula parts or_parts ors_in as_node node_if turned dual_node
atom-tree t true x r lists root = record { result = formula.leaf (told true x); lists = lists; root = root; is = ap formula.leaf (below-node t x); few = omega arith; within = (omega arith, tt) }
atom-tree t false x r lists root = record { result = formula.leaf (told false x); lists = lists; root = root; is = ap formula.leaf (told-opposite t x); few = omega arith; within = (omega arith, tt) }

-- one node, which is of the other kind
child-is : (t : Table) (b : Bool) (l : List ℕ) (own : Children)
    → node_of (not b) (meant t (not b) (leaves (not b) l (forest (not (not b)) own))) ≡ turned b (as_node (parts (atoms_in t []) (ors_in t (child l own none))))
unfolding node_of parts or_parts ors_in as_node node_if is_end turned dual_node back
child-is t true l own = ap any_of (meant-level t false l own)
child-is t false l own = ap all_of (meant-level t true l own ∙ sym (dual-twice t l own))

-- the parts under a node of their own
many-are : (t : Table) (b : Bool) (l : List ℕ) (children : Children) → as_node (parts (atoms_in t l) (ors_in t children)) ≡ all_of (parts (atoms_in t l) (ors_in t children))
    → node_of b (meant t b (leaves b l (forest (not b) children))) ≡ turned b (as_node (parts (atoms_in t l) (ors_in t children)))
unfolding node_of turned dual_node back
many-are t true l children e = ap all_of (meant-level t true l children) ∙ sym e
many-are t false l children e = ap any_of (meant-level t false l children) ∙ sym (ap dual_node e)

module _ (t : Table) (b : Bool) (l : List ℕ) (children : Children) (r : Tree) (lists : Lists r.tokens ((opening (length l + how_many children) ++ map (told b) l) ++ flat (forest (not b) children)))
    (root : r.root ≡ root_of (length l) (length l + how_many children) b) (small : length l + length (laid children) ≤ 254) where
  many-tree : (length l + how_many children ≡ 1 → ⊥) → as_node (parts (atoms_in t l) (ors_in t children)) ≡ all_of (parts (atoms_in t l) (ors_in t children))
      → TreeIs t b (parts (atoms_in t l) (ors_in t children)) r
  many-tree more e =
      let f = leaves b l (forest (not b) children) in
      let not-one : eqb (length l + how_many children) 1 ≡ false = ne_eqb _ _ more in
      let count_is : count (leaves b l (forest (not b) children)) ≡ length l + how_many children = count-leaves b l (forest (not b) children) ∙ ap (λ (n : ℕ). length l + n) (count-forest (not b) children) in
      node-tree b f (leaves-below b l (forest (not b) children) (forest-below (not b) children))
      (omega (arith, size-leaves b l (forest (not b) children), size-forest (not b) children))
      (rw (count_is, flat-leaves b l (forest (not b) children)) (rw not-one at lists)) (root ∙ rw not-one) (many-are t b l children e)

pub tree_is : (t : Table) (b : Bool) (l : List ℕ) (children : Children) (r : Tree) → Lists r.tokens ((opening (length l + how_many children) ++ map (told b) l) ++ flat (forest (not b) children))
    → r.root ≡ root_of (length l) (length l + how_many children) b → length l + length (laid children) ≤ 254 → TreeIs t b (parts (atoms_in t l) (ors_in t children)) r
unfolding parts or_parts ors_in as_node node_if is_end
tree_is t b (x ∷ []) none r lists root small = atom-tree t b x r lists root
tree_is t b [] (child m own none) r lists root small =
    node-tree (not b) (leaves (not b) m (forest (not (not b)) own)) (leaves-below (not b) m (forest (not (not b)) own) (forest-below (not (not b)) own))
    (omega (arith, size-leaves (not b) m (forest (not (not b)) own), size-forest (not (not b)) own, length-append m (laid own ++ []), length-append (laid own) []))
    (rw (append-nil (flat (leaves (not b) m (forest (not (not b)) own)))) at lists) root (child-is t b m own)
tree_is t b [] none r lists root small = many-tree t b [] none r lists root small (λ e. absurd (omega arith)) refl
tree_is t b [] (child m own (child m' own' later)) r lists root small = many-tree t b [] (child m own (child m' own' later)) r lists root small (λ e. absurd (omega arith)) refl
tree_is t b (x ∷ []) (child m own later) r lists root small = many-tree t b (x ∷ []) (child m own later) r lists root small (λ e. absurd (omega arith)) refl
tree_is t b (x ∷ y ∷ l) children r lists root small = many-tree t b (x ∷ y ∷ l) children r lists root small (λ e. absurd (omega arith)) refl

-- the same of a level that shows its parts
pub shown-between : {t : Table} {level : Level} {kids : Formula} (s : Shows t level kids) → Between level.ors 0 level.ors.count s.children
shown-between s = record { all = laid s.children; rest = []; lists = s.lies; here = sym (append-nil (laid s.children)); ends = omega (arith, s.lies.size) }

pub shown-tree : {t : Table} {level : Level} {kids : Formula} (s : Shows t level kids) (b : Bool) (n : ℕ) → n ≡ length s.list + how_many s.children → size_of level ≤ 254 → (r : Tree)
    → Lists r.tokens ((opening n ++ map (told b) (take (level.atoms.count - 0) (drop 0 s.list))) ++ flat (forest (not b) s.children))
    → r.root ≡ root_of level.atoms.count n b → TreeIs t b kids r
shown-tree {t} {level} {kids} s b n e small r lists root =
    subst (λ (k : Formula). TreeIs t b k r) s.is
    (tree_is t b s.list s.children r (rw (e, whole s.list level.atoms.count s.lists.size) at lists) (rw (sym e, sym s.lists.size) root)
    (omega (arith, s.lists.size, s.lies.size)))

-- ---- the tree that a tape holds

-- its nodes without their kinds
forget : Parts ℕ → Forest
forget end = nothing
forget (atom x rest) = leaf x (forget rest)
forget (and kids rest) = branch (forget kids) (forget rest)
forget (or kids rest) = branch (forget kids) (forget rest)

count-forget : (p : Parts ℕ) → count (forget p) ≡ children p
unfolding forget children
count-forget end = refl
count-forget (atom x rest) = omega (arith, count-forget rest)
count-forget (and kids rest) = omega (arith, count-forget rest)
count-forget (or kids rest) = omega (arith, count-forget rest)

size-forget : (p : Parts ℕ) → size (forget p) ≡ nodes p
unfolding forget nodes
size-forget end = refl
size-forget (atom x rest) = omega (arith, size-forget rest)
size-forget (and kids rest) = omega (arith, size-forget kids, size-forget rest)
size-forget (or kids rest) = omega (arith, size-forget kids, size-forget rest)

flat-forget : (p : Parts ℕ) → flat (forget p) ≡ tokens p
unfolding forget tokens
flat-forget end = refl
flat-forget (atom x rest) = ap (λ (l : List ℕ). x ∷ l) (flat-forget rest)
flat-forget (and kids rest) = rw (count-forget kids, flat-forget kids, flat-forget rest)
flat-forget (or kids rest) = rw (count-forget kids, flat-forget kids, flat-forget rest)

-- the kinds take turns, so they can be told again
named-forget : (d : ℕ) (b : Bool) (p : Parts ℕ) → TokensWithin d (kind_number b) p → named b (forget p) ≡ p
unfolding forget named TokensWithin
named-forget d b end w = refl
named-forget d b (atom x rest) w = ap (atom x) (named-forget d b rest w.1)
named-forget d true (and kids rest) w = absurd (w.0 refl)
named-forget d true (or kids rest) w = ap₂ or (named-forget (d - 1) false kids w.2) (named-forget d true rest w.3)
named-forget d false (and kids rest) w = ap₂ and (named-forget (d - 1) true kids w.2) (named-forget d false rest w.3)
named-forget d false (or kids rest) w = absurd (w.0 refl)

shaped-forget : (d parent : ℕ) (p : Parts ℕ) → TokensWithin d parent p → Shaped (suc d) (forget p)
unfolding forget Shaped TokensWithin
shaped-forget d parent end w = tt
shaped-forget d parent (atom x rest) w = (w.0, shaped-forget d parent rest w.1)
shaped-forget d parent (and kids rest) w =
    let e : suc (d - 1) ≡ suc d - 1 = omega (arith, w.1) in
    (omega (arith, w.1), (rw e at (shaped-forget (d - 1) 1 kids w.2), shaped-forget d parent rest w.3))
shaped-forget d parent (or kids rest) w =
    let e : suc (d - 1) ≡ suc d - 1 = omega (arith, w.1) in
    (omega (arith, w.1), (rw e at (shaped-forget (d - 1) 2 kids w.2), shaped-forget d parent rest w.3))

-- a node's parts as the rules see them
meant-twice : (t : Table) (b : Bool) (f : Forest) → dual (dual (meant t b f)) ≡ meant t b f
unfolding each_atom named dual
meant-twice t b nothing = refl
meant-twice t b (leaf x f) = ap₂ atom (complemented-twice t x) (meant-twice t b f)
meant-twice t true (branch kids f) = ap₂ or (meant-twice t false kids) (meant-twice t true f)
meant-twice t false (branch kids f) = ap₂ and (meant-twice t true kids) (meant-twice t false f)

seen-is : (t : Table) (b : Bool) (f : Forest) → seen t b f ≡ back b (meant t b f)
unfolding back each_atom named seen dual
seen-is t true nothing = refl
seen-is t false nothing = refl
seen-is t true (leaf x f) = ap (atom (atom_of t x)) (seen-is t true f)
seen-is t false (leaf x f) = ap₂ atom (opposite-is t x) (seen-is t false f)
seen-is t true (branch kids f) = ap₂ or (ap dual (seen-is t false kids) ∙ meant-twice t false kids) (seen-is t true f)
seen-is t false (branch kids f) = ap₂ or (ap dual (seen-is t true kids)) (seen-is t false f)

-- a root that is a node stands on the tape for its rule
pub record RootNode (token : List ℕ) (b : Bool) (tree : Node ℕ) : Type 0 where
  pub kids : Forest
  pub rest : List ℕ
  pub holds : Holds token 0 6 kids rest
  pub seen_are : (t : Table) → seen t b kids ≡ root_parts t tree

root_node : (token : List ℕ) (b : Bool) (p : Parts ℕ) (rest : List ℕ) (tree : Node ℕ) → token ≡ ((16777216 + children p) ∷ (tokens p ++ [])) ++ rest → TokensWithin 5 (kind_number b) p → nodes p ≤ 254
    → ((t : Table) → back b (each_atom (atom_of t) p) ≡ root_parts t tree) → RootNode token b tree
root_node token b p rest tree here within few e = record {
  kids = forget p;
  rest = rest;
  holds = record {
    here = here ∙ rw (append-nil (tokens p), count-forget p, flat-forget p);
    deep = omega arith;
    shape = shaped-forget 5 (kind_number b) p within;
    few = omega (arith, size-forget p);
  };
  seen_are = λ t. seen-is t b (forget p) ∙ ap (λ (q : Parts ℕ). back b (each_atom (atom_of t) q)) (named-forget 5 b p within) ∙ e t;
}

module _ {token : List ℕ} {root : ℕ} where
  pub held-and : (tree : Node ℕ) → TreeHeld token root tree → root ≡ 1 → RootNode token true tree
  unfolding open_formula tokens TokensWithin back root_parts
  held-and (formula.leaf x) h e = absurd (omega (arith, h.root_is))
  held-and (all_of kids) h e = root_node token true kids h.rest (all_of kids) h.here h.within.2 (omega (arith, h.few)) (λ t. refl)
  held-and (any_of kids) h e = absurd (omega (arith, h.root_is))

  pub held-or : (tree : Node ℕ) → TreeHeld token root tree → (root ≡ 0 → ⊥) → (root ≡ 1 → ⊥) → RootNode token false tree
  unfolding open_formula tokens TokensWithin back root_parts
  held-or (formula.leaf x) h m n = absurd (m h.root_is)
  held-or (all_of kids) h m n = absurd (n h.root_is)
  held-or (any_of kids) h m n = root_node token false kids h.rest (any_of kids) h.here h.within.2 (omega (arith, h.few)) (λ t. refl)

-- ---- the whole

-- what a rule made of the root
pub root-done : {t : Table} {token : List ℕ} {b : Bool} {tree : Node ℕ} {largest : ℕ} (n : RootNode token b tree) (found : Found) → Done t b 0 6 n.kids largest found
    → RootIs t tree largest (record { level = found.level; rounds = found.rounds })
root-done {t} n found d = record {
  counts = rw (sym (n.seen_are t)) d.counts;
  shows = rw (sym (n.seen_are t)) d.shows;
  small = one-or-few (size_of found.level) (size n.kids) 254 d.small n.holds.few (omega arith);
}

-- a level of as many tokens said in another way
pub finish-small : {t : Table} {l : List ℕ} {walk : Walk} {n m k rounds : ℕ} {level : Level} → n ≡ m → FinishIs t l walk n k level rounds → FinishIs t l walk m k level rounds
finish-small {t} {l} {walk} {k} {rounds} {level} e f = subst (λ (j : ℕ). FinishIs t l walk j k level rounds) e f

-- a root atom is an AND of one
pub root-atom : {t : Table} {token : List ℕ} {root largest : ℕ} {r : Finished} (tree : Node ℕ) → TreeHeld token root tree → root ≡ 0
    → FinishIs t (get_or token 0 0 ∷ []) (still []) 1 largest r.level r.rounds → RootIs t tree largest r
unfolding open_formula tokens root_parts and_rule atoms_of ors_of gather rule_count gather_count
root-atom (formula.leaf x) h e f = record {
  shows = rw (ap (λ (l : List ℕ). get_or l 0 0) h.here) at f.shows;
  counts = omega (arith, rw (ap (λ (l : List ℕ). get_or l 0 0) h.here) at f.counts);
  small = one-or-few _ 1 254 f.small (omega arith) (omega arith);
}
root-atom (all_of kids) h e f = absurd (omega (arith, h.root_is))
root-atom (any_of kids) h e f = absurd (omega (arith, h.root_is))

pub root-there : {token : List ℕ} {root : ℕ} (tree : Node ℕ) → TreeHeld token root tree → 0 < length token
unfolding open_formula tokens
root-there (formula.leaf x) h = omega (arith, ap length h.here)
root-there (all_of kids) h = omega (arith, ap length h.here)
root-there (any_of kids) h = omega (arith, ap length h.here)

-- the tree of that level is the book's
simplify-is : (t : Table) (tree : Node ℕ) (b : Bool) → b ≡ not (eqb (kind_of tree) 2) → turned b (as_node (and_rule t.variables 6 (root_parts t tree))) ≡ simplify t.variables (each_atom_of (atom_of t) tree)
unfolding turned simplify each_atom_of root_parts
simplify-is t (formula.leaf x) b e = rw e
simplify-is t (all_of kids) b e = rw e
simplify-is t (any_of kids) b e = rw e

count-whole : (t : Table) (tree : Node ℕ) → rule_count t.variables 6 (root_parts t tree) ≡ most_rounds t.variables (each_atom_of (atom_of t) tree)
unfolding most_rounds each_atom_of root_parts
count-whole t (formula.leaf x) = refl
count-whole t (all_of kids) = refl
count-whole t (any_of kids) = refl

pub whole_is : {t : Table} {token : List ℕ} {root : ℕ} {tree : Node ℕ} {r : Tree} {largest rounds : ℕ} (b : Bool) → TreeHeld token root tree → b ≡ not (eqb root 2)
    → TreeIs t b (and_rule t.variables 6 (root_parts t tree)) r → rounds ≡ max largest (rule_count t.variables 6 (root_parts t tree))
    → ShortenedIs t tree largest (record { tree = r; rounds = rounds })
whole_is {t} {tree} {largest} b h e i counted = record {
  simplified = record {
    result = i.result;
    lists = i.lists;
    root = i.root;
    is = i.is ∙ simplify-is t tree b (e ∙ ap (λ (n : ℕ). not (eqb n 2)) h.root_is);
    few = i.few;
    within = i.within;
  };
  counts = counted ∙ ap (max largest) (count-whole t tree);
}
