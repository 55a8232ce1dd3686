-- The tree: within the limits it reads back when it is written; accepted, it is within the limits and is written with the bits that
-- were read. The laws go node by node, as the book's parts do; AND and OR are one law over their kind.
use Rattle.std.specs.Prelude.{Bool, List, [], ◌++◌, ◌≡◌, refl, eqb, take, drop}
use Rattle.std.proofs.Common.{append_assoc, ◌∙◌, zero-add, one-add, length-append}
use Rattle.std.proofs.Math.Path.{sym, ap, subst, subst₂}
use Prim.Native.Nat.{ℕ, zero, suc, ◌+◌, ◌-◌, ◌^◌, ◌≤◌, ◌<◌}
use native.Mathlib.Omega.{arith}
use Rattle.std.proofs.Math.ListN.{length, length-drop}
use borrow.Author.Tests.{lt-ltb, le-leb, ltb-true, leb-true, eqb-false, ne_eqb, not-true}
use Rattle.rules.specs.Formula.{Parts, end, atom, and, or, Node, leaf, all_of, any_of, before, alone, children, nodes}
use Rattle.rules.specs.Bits.{field, value}
use Rattle.rules.specs.Block.{NumberedAtom, Stream, Reading, refused, read, require, afterwards, read_atom, read_join, by_kind, read_node_by, read_parts, joined, read_node}
use Rattle.rules.specs.Block.{write_parts}
use Rattle.rules.specs.Limits.{PartsWithin}
use Rattle.block_laws.specs.Bits.{length-field, drop-field, written-field, read_below}
use Rattle.block_laws.specs.Accepted.{refused≢read, require-read, afterwards-read, same_read, stream, behind, Passed, passed-nothing, passed-both, passed-field}

-- ---- A node put before other parts.

before-written : (node : Node NumberedAtom) (rest : Parts NumberedAtom) → write_parts (before node rest) ≡ write_parts (alone node) ++ write_parts rest
unfolding write_parts before alone
before-written (leaf a) rest = simp append_assoc
before-written (all_of kids) rest = simp append_assoc
before-written (any_of kids) rest = simp append_assoc

before-nodes : (node : Node NumberedAtom) (rest : Parts NumberedAtom) → nodes (before node rest) ≡ nodes (alone node) + nodes rest
unfolding nodes before alone
before-nodes (leaf a) rest = omega arith
before-nodes (all_of kids) rest = omega arith
before-nodes (any_of kids) rest = omega arith

before-children : (node : Node NumberedAtom) (rest : Parts NumberedAtom) → children (before node rest) ≡ suc (children rest)
unfolding children before
before-children (leaf a) rest = omega arith
before-children (all_of kids) rest = omega arith
before-children (any_of kids) rest = omega arith

before-within : (d m parent : ℕ) (node : Node NumberedAtom) (rest : Parts NumberedAtom) → PartsWithin d m parent (alone node) → PartsWithin d m parent rest
    → PartsWithin d m parent (before node rest)
unfolding PartsWithin before alone
before-within d m parent (leaf a) rest first others = (first.0, first.1, others)
before-within d m parent (all_of kids) rest first others = (first.0, first.1, first.2, others)
before-within d m parent (any_of kids) rest first others = (first.0, first.1, first.2, others)

-- The tree of which these parts are the only one.
tree_of : Parts NumberedAtom → Node NumberedAtom
tree_of end = any_of end
tree_of (atom a rest) = leaf a
tree_of (and kids rest) = all_of kids
tree_of (or kids rest) = any_of kids

tree_of-alone : (tree : Node NumberedAtom) → tree_of (alone tree) ≡ tree
unfolding tree_of alone before
tree_of-alone (leaf a) = refl
tree_of-alone (all_of kids) = refl
tree_of-alone (any_of kids) = refl

children-alone : (tree : Node NumberedAtom) → children (alone tree) ≡ 1
unfolding alone children
children-alone tree = before-children tree end

children-at-most : (parts : Parts NumberedAtom) → children parts ≤ nodes parts
unfolding children nodes
children-at-most end = omega arith
children-at-most (atom a rest) = omega (arith, children-at-most rest)
children-at-most (and kids rest) = omega (arith, children-at-most rest)
children-at-most (or kids rest) = omega (arith, children-at-most rest)

-- ---- AND and OR by their kind, 1 and 2.

joined-written : (kind : ℕ) (kids : Parts NumberedAtom) → 0 < kind → kind < 3
    → write_parts (alone (joined kind kids)) ≡ field 2 kind ++ (field 8 (children kids) ++ (write_parts kids ++ []))
unfolding write_parts joined before alone
joined-written zero kids is_join known = absurd (omega arith)
joined-written (suc zero) kids is_join known = refl
joined-written (suc (suc zero)) kids is_join known = refl
joined-written (suc (suc (suc kind))) kids is_join known = absurd (omega arith)

joined-nodes : (kind : ℕ) (kids : Parts NumberedAtom) → nodes (alone (joined kind kids)) ≡ suc (nodes kids)
unfolding nodes joined before alone
joined-nodes zero kids = omega arith
joined-nodes (suc zero) kids = omega arith
joined-nodes (suc (suc kind)) kids = omega arith

joined-within : (d m parent kind : ℕ) (kids : Parts NumberedAtom) → 0 < kind → kind < 3 → (kind ≡ parent → ⊥) → 0 < d → PartsWithin (d - 1) m kind kids
    → PartsWithin d m parent (alone (joined kind kids))
unfolding PartsWithin joined before alone
joined-within d m parent zero kids is_join known other deep within = absurd (omega arith)
joined-within d m parent (suc zero) kids is_join known other deep within = ((λ e. other (sym e)), deep, within, tt)
joined-within d m parent (suc (suc zero)) kids is_join known other deep within = ((λ e. other (sym e)), deep, within, tt)
joined-within d m parent (suc (suc (suc kind))) kids is_join known other deep within = absurd (omega arith)

-- How a node is read below an AND or an OR, with d nestings left: 13, or the children.
abbrev inside : ℕ → ℕ → ℕ → ℕ → Stream → Reading (Node NumberedAtom)
inside zero m kind count s = refused 13
inside (suc d) m kind count s = afterwards (read_parts (read_node d m kind) count s) (λ kids s₁. read (joined kind kids) s₁)

node_by : (d m parent : ℕ) (s : Stream) → read_node d m parent s ≡ read_node_by (inside d m) m parent s
unfolding read_node
node_by zero m parent s = refl
node_by (suc d) m parent s = refl

-- ---- What is written reads back.

kind-read : (d m parent kind allowed : ℕ) (rest : List Bool) → kind < 3
    → read_node d m parent (stream (suc allowed) (field 2 kind ++ rest)) ≡ by_kind (eqb kind 0) (read_atom m allowed rest) (read_join (inside d m) parent kind allowed rest)
unfolding read_node_by require
kind-read d m parent kind allowed rest known =
    let long : 2 ≤ length (field 2 kind ++ rest) = rw (length-append, length-field) (omega arith) in
    let kind_fits : kind < 2 ^ 2 = omega arith in
    let not_three : kind ≡ 3 → ⊥ = λ e. omega arith in
    let one-less : suc allowed - 1 ≡ allowed = omega arith in
    rw (node_by d m parent, lt-ltb 0 (suc allowed) (omega arith), le-leb _ _ long, drop-field, written-field 2 kind rest kind_fits, ne_eqb kind 3 not_three, one-less)

atom-reads-back : (d m parent allowed : ℕ) (a : NumberedAtom) (rest : List Bool) → m ≤ 64 → a.number < m → a.set < 8
    → read_node d m parent (stream (suc allowed) (field 2 0 ++ (field 6 a.number ++ (field 3 a.set ++ rest)))) ≡ read (leaf a) (stream allowed rest)
unfolding read_atom by_kind require
atom-reads-back d m parent allowed a rest few in_table set-fits =
    let long : 9 ≤ length (field 6 a.number ++ (field 3 a.set ++ rest)) = simp (length-append, length-field) (omega arith) in
    let number_fits : a.number < 2 ^ 6 = omega arith in
    rw (
      kind-read d m parent 0 allowed _ (omega arith),
      le-leb _ _ long,
      written-field 6 a.number _ number_fits,
      lt-ltb a.number m in_table,
      drop-field,
      written-field 3 a.set rest set-fits,
      drop-field,
    )

join-read : (d m parent kind count allowed : ℕ) (rest : List Bool) → 0 < kind → kind < 3 → (kind ≡ parent → ⊥) → 0 < d → count ≤ 255
    → read_node d m parent (stream (suc allowed) (field 2 kind ++ (field 8 count ++ rest)))
    ≡ afterwards (read_parts (read_node (d - 1) m kind) count (stream allowed rest)) (λ kids s₁. read (joined kind kids) s₁)
unfolding read_join by_kind require
join-read zero m parent kind count allowed rest is_join known other deep few = absurd (omega arith)
join-read (suc d) m parent kind count allowed rest is_join known other deep few =
    let no-atom : kind ≡ 0 → ⊥ = λ e. omega arith in
    let long : 8 ≤ length (field 8 count ++ rest) = rw (length-append, length-field) (omega arith) in
    let count_fits : count < 2 ^ 8 = omega arith in
    let one-less : suc d - 1 ≡ d = omega arith in
    rw (
      kind-read (suc d) m parent kind allowed _ known,
      ne_eqb kind 0 no-atom,
      le-leb _ _ long,
      drop-field,
      written-field 8 count rest count_fits,
      ne_eqb kind parent other,
      one-less,
    )

-- Parts read back where the first of them does and the others do.
part-reads-back : (read_one : Stream → Reading (Node NumberedAtom)) (count : ℕ) (s : Stream) {node : Node NumberedAtom} {rest : Parts NumberedAtom} {s₁ s₂ : Stream}
    → read_one s ≡ read node s₁ → read_parts read_one count s₁ ≡ read rest s₂ → read_parts read_one (1 + count) s ≡ read (before node rest) s₂
unfolding read_parts afterwards
part-reads-back read_one count s first others = rw (one-add, first, others)

-- An AND or an OR reads back where its children do and the parts behind it do.
join-reads-back : (d m parent kind allowed : ℕ) (kids others : Parts NumberedAtom) (rest : List Bool) → 0 < kind → kind < 3 → (parent ≡ kind → ⊥) → 0 < d
    → nodes kids ≤ 255
    → read_parts (read_node (d - 1) m kind) (children kids) (stream (nodes kids + (nodes others + allowed)) (write_parts kids ++ (write_parts others ++ rest)))
    ≡ read kids (stream (nodes others + allowed) (write_parts others ++ rest))
    → read_parts (read_node d m parent) (children others) (stream (nodes others + allowed) (write_parts others ++ rest)) ≡ read others (stream allowed rest)
    → read_parts (read_node d m parent) (1 + children others)
    (stream (1 + nodes kids + nodes others + allowed) (field 2 kind ++ (field 8 (children kids) ++ (write_parts kids ++ write_parts others)) ++ rest))
    ≡ read (before (joined kind kids) others) (stream allowed rest)
unfolding afterwards
join-reads-back d m parent kind allowed kids others rest is_join known other deep few kids-read others-read =
    let counted : 1 + nodes kids + nodes others + allowed ≡ suc (nodes kids + (nodes others + allowed)) = omega arith in
    let few-children : children kids ≤ 255 = omega (arith, children-at-most kids) in
    let join = join-read d m parent kind (children kids) (nodes kids + (nodes others + allowed)) _ is_join known (λ e. other (sym e)) deep few-children in
    rw (counted, append_assoc, append_assoc, append_assoc) (part-reads-back (read_node d m parent) (children others) _ (join ∙ rw kids-read) others-read)

parts-read-back : (parts : Parts NumberedAtom) (d m parent allowed : ℕ) (rest : List Bool) → m ≤ 64 → PartsWithin d m parent parts → nodes parts ≤ 255
    → read_parts (read_node d m parent) (children parts) (stream (nodes parts + allowed) (write_parts parts ++ rest)) ≡ read parts (stream allowed rest)
unfolding PartsWithin read_parts write_parts nodes children before joined
parts-read-back end d m parent allowed rest few within few-nodes = rw zero-add
parts-read-back (atom a others) d m parent allowed rest few within few-nodes =
    let counted : 1 + nodes others + allowed ≡ suc (nodes others + allowed) = omega arith in
    rw (counted, append_assoc, append_assoc, append_assoc)
    (part-reads-back (read_node d m parent) (children others) _
    (atom-reads-back d m parent (nodes others + allowed) a (write_parts others ++ rest) few within.0 within.1)
    (parts-read-back others d m parent allowed rest few within.2 (omega arith)))
parts-read-back (and kids others) d m parent allowed rest few within few-nodes =
    join-reads-back d m parent 1 allowed kids others rest (omega arith) (omega arith) within.0 within.1 (omega arith)
    (parts-read-back kids (d - 1) m 1 (nodes others + allowed) (write_parts others ++ rest) few within.2 (omega arith))
    (parts-read-back others d m parent allowed rest few within.3 (omega arith))
parts-read-back (or kids others) d m parent allowed rest few within few-nodes =
    join-reads-back d m parent 2 allowed kids others rest (omega arith) (omega arith) within.0 within.1 (omega arith)
    (parts-read-back kids (d - 1) m 2 (nodes others + allowed) (write_parts others ++ rest) few within.2 (omega arith))
    (parts-read-back others d m parent allowed rest few within.3 (omega arith))

alone-read : (read_one : Stream → Reading (Node NumberedAtom)) (s : Stream) (tree : Node NumberedAtom) {s₁ : Stream} → read_parts read_one 1 s ≡ read (alone tree) s₁
    → read_one s ≡ read tree s₁
unfolding read_parts alone
alone-read read_one s tree {s₁} accepted =
    let first = afterwards-read _ _ accepted in
    let whole : read (before first.part end) first.between ≡ read (before tree end) s₁ = unfold afterwards in first.then_read in
    let same = same_read whole in
    let tree_is : first.part ≡ tree = sym (tree_of-alone first.part) ∙ ap tree_of same.0 ∙ tree_of-alone tree in
    first.first_read ∙ rw (tree_is, same.1)

-- A tree within the limits, written, reads back: its nodes are counted off, and what follows it is left.
pub tree-reads-back : (d m parent allowed : ℕ) (tree : Node NumberedAtom) (rest : List Bool) → m ≤ 64 → PartsWithin d m parent (alone tree) → nodes (alone tree) ≤ 255
    → read_node d m parent (stream (nodes (alone tree) + allowed) (write_parts (alone tree) ++ rest)) ≡ read tree (stream allowed rest)
tree-reads-back d m parent allowed tree rest few within few-nodes =
    alone-read (read_node d m parent) _ tree (rw (children-alone tree) at (parts-read-back (alone tree) d m parent allowed rest few within few-nodes))

-- ---- What is accepted.

-- What an accepted tree tells: its bits are those that are written, its nodes are counted off, and it is within the limits.
pub record TreeAccepted (d m parent : ℕ) (s : Stream) (tree : Node NumberedAtom) (s₁ : Stream) : Type 0 where
  pub passed : Passed (write_parts (alone tree)) (nodes (alone tree)) s s₁
  pub within : PartsWithin d m parent (alone tree)

-- The same of parts that were asked for by their number.
record PartsAccepted (d m parent count : ℕ) (s : Stream) (parts : Parts NumberedAtom) (s₁ : Stream) : Type 0 where
  passed : Passed (write_parts parts) (nodes parts) s s₁
  within : PartsWithin d m parent parts
  counted : children parts ≡ count

no-parts-accepted : (d m parent : ℕ) (s : Stream) → PartsAccepted d m parent 0 s end s
unfolding write_parts nodes PartsWithin children
no-parts-accepted d m parent s = record { passed = passed-nothing s; within = tt; counted = refl }

more-parts-accepted : {d m parent count : ℕ} {s s₁ s₂ : Stream} {node : Node NumberedAtom} {rest : Parts NumberedAtom} → TreeAccepted d m parent s node s₁
    → PartsAccepted d m parent count s₁ rest s₂ → PartsAccepted d m parent (suc count) s (before node rest) s₂
more-parts-accepted {d} {m} {parent} {node = node} {rest = rest} first others = record {
  passed = rw (before-written node rest, before-nodes node rest) (passed-both first.passed others.passed);
  within = before-within d m parent node rest first.within others.within;
  counted = before-children node rest ∙ ap suc others.counted;
}

-- What holds of every accepted node with d nestings left, under such a parent.
abbrev NodesAccepted : ℕ → ℕ → ℕ → Type 0
NodesAccepted d m parent = (s : Stream) (node : Node NumberedAtom) (s₁ : Stream) → read_node d m parent s ≡ read node s₁ → TreeAccepted d m parent s node s₁

parts-accepted : (d m parent : ℕ) → NodesAccepted d m parent → (count : ℕ) (s : Stream) (parts : Parts NumberedAtom) (s₁ : Stream)
    → read_parts (read_node d m parent) count s ≡ read parts s₁ → PartsAccepted d m parent count s parts s₁
unfolding read_parts
parts-accepted d m parent each zero s parts s₁ accepted =
    let same = same_read accepted in
    subst₂ (λ (x : Parts NumberedAtom) (y : Stream). PartsAccepted d m parent 0 s x y) same.0 same.1 (no-parts-accepted d m parent s)
parts-accepted d m parent each (suc count) s parts s₁ accepted =
    let first = afterwards-read _ _ accepted in
    let others = afterwards-read _ _ first.then_read in
    let same = same_read others.then_read in
    subst₂ (λ (x : Parts NumberedAtom) (y : Stream). PartsAccepted d m parent (suc count) s x y) same.0 same.1
    (more-parts-accepted (each s _ _ first.first_read) (parts-accepted d m parent each count first.between _ _ others.first_read))

-- What holds of every AND or OR that is accepted with d nestings left for it: there was one, and its children are accepted.
record InsideAccepted (d m kind count : ℕ) (s : Stream) (node : Node NumberedAtom) (s₁ : Stream) : Type 0 where
  deep : 0 < d
  kids : Parts NumberedAtom
  node_is : joined kind kids ≡ node
  all : PartsAccepted (d - 1) m kind count s kids s₁

abbrev JoinsAccepted : ℕ → ℕ → Type 0
JoinsAccepted d m =
    (kind count : ℕ) (s : Stream) (node : Node NumberedAtom) (s₁ : Stream) → inside d m kind count s ≡ read node s₁ → InsideAccepted d m kind count s node s₁

too-deep : (m : ℕ) → JoinsAccepted zero m
too-deep m kind count s node s₁ accepted = absurd (refused≢read accepted)

one_deeper : (d m : ℕ) → ((parent : ℕ) → NodesAccepted d m parent) → JoinsAccepted (suc d) m
one_deeper d m each kind count s node s₁ accepted =
    let first = afterwards-read _ _ accepted in
    let same = same_read first.then_read in
    let one-less : suc d - 1 ≡ d = omega arith in
    record {
      deep = omega arith;
      kids = first.part;
      node_is = same.0;
      all = subst (λ (y : Stream). PartsAccepted (suc d - 1) m kind count s first.part y) same.1
          (rw one-less (parts-accepted d m kind (each kind) count s _ _ first.first_read));
    }

-- A node whose kind was read: 0 is an atom, 1 and 2 are AND and OR.
module _ (d m parent : ℕ) (s s₀ : Stream) where
  atom-accepted : {node : Node NumberedAtom} {s₁ : Stream} → Passed (field 2 0) 1 s s₀ → read_atom m s₀.allowed s₀.bits ≡ read node s₁
      → TreeAccepted d m parent s node s₁
  unfolding read_atom write_parts nodes PartsWithin alone before
  atom-accepted kind-passed accepted =
      let long = require-read 6 accepted in
      let in_table = require-read 11 long.1 in
      let same = same_read in_table.1 in
      let nine : 9 ≤ length s₀.bits = leb-true _ _ long.0 in
      let three : 3 ≤ length (drop 6 s₀.bits) = rw length-drop (omega arith) in
      subst₂ (λ (x : Node NumberedAtom) (y : Stream). TreeAccepted d m parent s x y) same.0 same.1 (record {
        passed = passed-both kind-passed (passed-both (passed-field 6 s₀ (omega arith)) (passed-both (passed-field 3 (behind 6 s₀) three) (passed-nothing _)));
        within = (ltb-true _ _ in_table.0, read_below 3 (drop 6 s₀.bits), tt);
      })

  join-accepted : (kind : ℕ) {node : Node NumberedAtom} {s₁ : Stream} → 0 < kind → kind < 3 → Passed (field 2 kind) 1 s s₀ → JoinsAccepted d m
      → read_join (inside d m) parent kind s₀.allowed s₀.bits ≡ read node s₁ → TreeAccepted d m parent s node s₁
  unfolding read_join
  join-accepted kind {s₁ = s₁} is_join known kind-passed joins accepted =
      let long = require-read 6 accepted in
      let other = require-read 12 long.1 in
      let inner = joins kind _ (behind 8 s₀) _ s₁ other.1 in
      let kids = inner.kids in
      let counted : nodes (alone (joined kind kids)) ≡ 1 + (0 + (nodes kids + 0)) = joined-nodes kind kids ∙ omega arith in
      subst (λ (x : Node NumberedAtom). TreeAccepted d m parent s x s₁) inner.node_is (record {
        passed = rw (joined-written kind kids is_join known, counted, inner.all.counted)
            (passed-both kind-passed (passed-both (passed-field 8 s₀ (leb-true _ _ long.0)) (passed-both inner.all.passed (passed-nothing s₁))));
        within = joined-within d m parent kind kids is_join known (eqb-false _ _ (not-true _ other.0)) inner.deep inner.all.within;
      })

  kind-accepted : (kind : ℕ) {node : Node NumberedAtom} {s₁ : Stream} → kind < 4 → (kind ≡ 3 → ⊥) → Passed (field 2 kind) 1 s s₀ → JoinsAccepted d m
      → by_kind (eqb kind 0) (read_atom m s₀.allowed s₀.bits) (read_join (inside d m) parent kind s₀.allowed s₀.bits) ≡ read node s₁
      → TreeAccepted d m parent s node s₁
  unfolding by_kind
  kind-accepted zero small not_three kind-passed joins accepted = atom-accepted kind-passed accepted
  kind-accepted (suc zero) small not_three kind-passed joins accepted = join-accepted 1 (omega arith) (omega arith) kind-passed joins accepted
  kind-accepted (suc (suc zero)) small not_three kind-passed joins accepted = join-accepted 2 (omega arith) (omega arith) kind-passed joins accepted
  kind-accepted (suc (suc (suc kind))) small not_three kind-passed joins accepted = absurd (omega arith)

node-accepted : (d m : ℕ) → JoinsAccepted d m → (parent : ℕ) → NodesAccepted d m parent
unfolding read_node_by
node-accepted d m joins parent s node s₁ accepted =
    let allowed = require-read 14 (rw (node_by d m parent s) at accepted) in
    let long = require-read 6 allowed.1 in
    let known = require-read 10 long.1 in
    let some : 0 < s.allowed = ltb-true _ _ allowed.0 in
    let kind-passed : Passed (field 2 (value (take 2 s.bits))) 1 s (stream (s.allowed - 1) (drop 2 s.bits)) =
    record { over = (passed-field 2 s (leb-true _ _ long.0)).over; counted = omega arith } in
    kind-accepted d m parent s _ _ (read_below 2 s.bits) (eqb-false _ _ (not-true _ known.0)) kind-passed joins known.1

nodes-accepted : (d m parent : ℕ) → NodesAccepted d m parent
nodes-accepted zero m parent = node-accepted zero m (too-deep m) parent
nodes-accepted (suc d) m parent = node-accepted (suc d) m (one_deeper d m (nodes-accepted d m)) parent

-- A tree that is accepted is within the limits, and its bits are those that are written.
pub tree-accepted : (d m parent : ℕ) (s : Stream) {tree : Node NumberedAtom} {s₁ : Stream} → read_node d m parent s ≡ read tree s₁ → TreeAccepted d m parent s tree s₁
tree-accepted d m parent s {tree} {s₁} accepted = nodes-accepted d m parent s tree s₁ accepted
