-- The tape of a block that was read, with each atom's token brought to normal form: it holds the same tree, whose atoms now name slots of the
-- working table. Each atom is the normal form of the block's.
use Rattle.std.specs.Prelude.{◌≡◌, Bool, true, false, ℕ, ◌+◌, ◌-◌, ◌*◌, ◌/◌, ◌%◌, ◌<◌, ◌≤◌, get_or, take, drop, replicate}
use Rattle.std.proofs.Math.Path.{refl, sym, ap, ap₂}
use Rattle.std.proofs.Common.{◌∙◌, subst, zero-add, arith, take_at, drop_at, lt-ltb, le-ltb}
use mathlib.Core.List.{List, ◌∷◌, ◌++◌, map, map-append}
use Rattle.std.proofs.Math.ListN.{length, length-replicate}
use Rattle.std.proofs.lemmas.List.{length-map}
use Rattle.std.proofs.lemmas.List.Edits.{sets, sets-eq}
use Rattle.rules.specs.Signs.{SignSet, has, mirror_of_sign, mirror}
use Rattle.rules.specs.Polynomial.{normal}
use Rattle.rules.specs.Formula.{Parts, end, atom, and, or, Node, leaf, all_of, any_of, each_atom, each_atom_of, alone, children, nodes, open_formula}
use Rattle.rules.specs.Block.{NumberedAtom, Block}
use Rattle.rules.specs.Limits.{PartsWithin, BlockWithin}
use Rattle.rules.specs.Answer.{looked_up}
use Rattle.sign_laws.specs.Sets.{set_of-small}
use Rattle.ending_laws.specs.Nestings.{alone-each}
use Rattle.ending_laws.specs.Shapes.{nodes-each, children-each}
use Rattle.block.specs.Held.{tokens, kind_of, held_of}
use Rattle.block.specs.Tokens.{length-tokens, set_back}
use Rattle.forms.specs.declared.WorkingTable.{WorkingTable}
use Rattle.normal.specs.Normal.{turned_set}
use Rattle.forms.specs.Working.{table_of, Worked}
use Rattle.forms.specs.Holding.{atom-normal}
use Rattle.forms.specs.Tokens.{normal_token, normal_unless_node, normal_tokens}
use Rattle.used.specs.Tape.{in_slot, NameSlots, Holds}
use Rattle.array_laws.specs.Arrays.{held-table}

-- An atom with the number of its polynomial's normal form, the set mirrored if the polynomial was negated.
unfoldable pub normalised : List ℕ → List Bool → NumberedAtom → NumberedAtom
normalised number turned a = record { number = get_or number a.number 0; set = turned_set (get_or turned a.number false) a.set }

-- ---- the tokens

-- Other atoms leave the kind as it is.
pub kind-each : (f : NumberedAtom → NumberedAtom) (tree : Node NumberedAtom) → kind_of (each_atom_of f tree) ≡ kind_of tree
unfolding kind_of each_atom_of
kind-each f (leaf a) = refl
kind-each f (all_of kids) = refl
kind-each f (any_of kids) = refl

-- An atom's token has its slot.
pub slot-back : (number set : ℕ) → number < 64 → set < 8 → (number * 8 + set) / 8 % 64 ≡ number
slot-back number set h k = omega arith

no_place : (number set : ℕ) → number < 64 → set < 8 → (number * 8 + set) / 512 * 512 ≡ 0
no_place number set h k = omega arith

module _ (number : List ℕ) (turned : List Bool) where
  atom-token : (a : NumberedAtom) → a.number < 64 → a.set < 8
      → normal_unless_node number turned (a.number * 8 + a.set) ≡ (normalised number turned a).number * 8 + (normalised number turned a).set
  unfolding normal_unless_node normal_token normalised
  atom-token a h k =
      rw (lt-ltb (a.number * 8 + a.set) 16777216 (omega arith), no_place a.number a.set h k, slot-back a.number a.set h k, set_back a.number a.set k)
      (omega arith)

  node-token : (count : ℕ) → normal_unless_node number turned (16777216 + count) ≡ 16777216 + count
  unfolding normal_unless_node
  node-token count = rw (le-ltb (16777216 + count) 16777216 (omega arith))

  -- The tokens brought to normal form are those of the tree with normalised atoms.
  pub tokens-normal : (d m parent : ℕ) (parts : Parts NumberedAtom) → m ≤ 64 → PartsWithin d m parent parts
      → map (normal_unless_node number turned) (tokens parts) ≡ tokens (each_atom (normalised number turned) parts)
  unfolding tokens each_atom PartsWithin
  tokens-normal d m parent end most within = refl
  tokens-normal d m parent (atom a rest) most within =
      ap₂ (λ (t : ℕ) (l : List ℕ). t ∷ l) (atom-token a (omega (arith, within.0)) within.1) (tokens-normal d m parent rest most within.2)
  tokens-normal d m parent (and kids rest) most within =
      ap₂ (λ (t : ℕ) (l : List ℕ). t ∷ l) (node-token (children kids) ∙ ap (λ (k : ℕ). 16777216 + k) (sym (children-each (normalised number turned) kids)))
      (map-append (normal_unless_node number turned) (tokens kids) (tokens rest)
      ∙ ap₂ ◌++◌ (tokens-normal (d - 1) m 1 kids most within.2) (tokens-normal d m parent rest most within.3))
  tokens-normal d m parent (or kids rest) most within =
      ap₂ (λ (t : ℕ) (l : List ℕ). t ∷ l) (node-token (children kids) ∙ ap (λ (k : ℕ). 16777216 + k) (sym (children-each (normalised number turned) kids)))
      (map-append (normal_unless_node number turned) (tokens kids) (tokens rest)
      ∙ ap₂ ◌++◌ (tokens-normal (d - 1) m 2 kids most within.2) (tokens-normal d m parent rest most within.3))

-- ---- the tree

-- Where every number is below m, two ways to look up an atom may agree only there.
pub each-agrees : {B : Type 0} (f g : NumberedAtom → B) (d m parent : ℕ) (parts : Parts NumberedAtom) → PartsWithin d m parent parts
    → ((a : NumberedAtom) → a.number < m → f a ≡ g a) → each_atom f parts ≡ each_atom g parts
unfolding each_atom PartsWithin
each-agrees f g d m parent end within agree = refl
each-agrees f g d m parent (atom a rest) within agree = ap₂ atom (agree a within.0) (each-agrees f g d m parent rest within.2 agree)
each-agrees f g d m parent (and kids rest) within agree =
    ap₂ and (each-agrees f g (d - 1) m 1 kids within.2 agree) (each-agrees f g d m parent rest within.3 agree)
each-agrees f g d m parent (or kids rest) within agree =
    ap₂ or (each-agrees f g (d - 1) m 2 kids within.2 agree) (each-agrees f g d m parent rest within.3 agree)

-- One kind of atom after another.
pub each_after : {A B C : Type 0} (f : B → C) (g : A → B) (parts : Parts A) → each_atom f (each_atom g parts) ≡ each_atom (λ a. f (g a)) parts
unfolding each_atom
each_after f g end = refl
each_after f g (atom a rest) = ap (atom (f (g a))) (each_after f g rest)
each_after f g (and kids rest) = ap₂ and (each_after f g kids) (each_after f g rest)
each_after f g (or kids rest) = ap₂ or (each_after f g kids) (each_after f g rest)

-- The same of a whole tree.
pub tree-agrees : {B : Type 0} (f g : NumberedAtom → B) (d m parent : ℕ) (tree : Node NumberedAtom) → PartsWithin d m parent (alone tree)
    → ((a : NumberedAtom) → a.number < m → f a ≡ g a) → each_atom_of f tree ≡ each_atom_of g tree
unfolding open_formula PartsWithin
tree-agrees f g d m parent (leaf a) within agree = ap leaf (agree a within.0)
tree-agrees f g d m parent (all_of kids) within agree = ap all_of (each-agrees f g (d - 1) m 1 kids within.2 agree)
tree-agrees f g d m parent (any_of kids) within agree = ap any_of (each-agrees f g (d - 1) m 2 kids within.2 agree)

pub tree-after : {A B C : Type 0} (f : B → C) (g : A → B) (tree : Node A) → each_atom_of f (each_atom_of g tree) ≡ each_atom_of (λ a. f (g a)) tree
unfolding each_atom_of
tree-after f g (leaf a) = refl
tree-after f g (all_of kids) = ap all_of (each_after f g kids)
tree-after f g (any_of kids) = ap any_of (each_after f g kids)

turned-small : (b : Bool) (s : SignSet) → s < 8 → turned_set b s < 8
unfolding turned_set mirror
turned-small true s h = set_of-small (λ x. has (mirror_of_sign x) s)
turned-small false s h = h

-- With numbers below 64 for all numbers below m, the normalised parts are within the limits of a table of 64.
pub normalised-within : (number : List ℕ) (turned : List Bool) (d m parent : ℕ) (parts : Parts NumberedAtom) → ((i : ℕ) → i < m → get_or number i 0 < 64)
    → PartsWithin d m parent parts → PartsWithin d 64 parent (each_atom (normalised number turned) parts)
unfolding each_atom PartsWithin normalised
normalised-within number turned d m parent end below within = tt
normalised-within number turned d m parent (atom a rest) below within = (
  below a.number within.0,
  turned-small (get_or turned a.number false) a.set within.1,
  normalised-within number turned d m parent rest below within.2,
)
normalised-within number turned d m parent (and kids rest) below within = (
  within.0,
  within.1,
  normalised-within number turned (d - 1) m 1 kids below within.2,
  normalised-within number turned d m parent rest below within.3,
)
normalised-within number turned d m parent (or kids rest) below within = (
  within.0,
  within.1,
  normalised-within number turned (d - 1) m 2 kids below within.2,
  normalised-within number turned d m parent rest below within.3,
)

-- Parts within the limits of a table of 64 name slots.
pub within-names : (d parent : ℕ) (parts : Parts NumberedAtom) → PartsWithin d 64 parent parts → NameSlots parts
unfolding PartsWithin NameSlots
within-names d parent end within = tt
within-names d parent (atom a rest) within = (within.0, within.1, within-names d parent rest within.2)
within-names d parent (and kids rest) within = (within-names (d - 1) 1 kids within.2, within-names d parent rest within.3)
within-names d parent (or kids rest) within = (within-names (d - 1) 2 kids within.2, within-names d parent rest within.3)

-- ---- the tape

-- The first values of a run of stores from the first place on.
stored-first : (array values : List ℕ) (count : ℕ) → count ≡ length values → length values ≤ length array → take count (sets array 0 values) ≡ values
stored-first array values count e room =
    let stored : sets array 0 values ≡ values ++ drop (length values) array = rw (zero-add (length values)) at (sets-eq values array 0 (omega arith)) in
    rw (stored, e) (take_at values (drop (length values) array) (length values) refl)

-- A run of stores from the first place on, with its values mapped, is the run of the mapped values.
stored-mapped : (f : ℕ → ℕ) (array values mapped : List ℕ) → length values ≤ length array → map f values ≡ mapped
    → map f (take (length values) (sets array 0 values)) ++ drop (length values) (sets array 0 values) ≡ sets array 0 mapped
stored-mapped f array values mapped room e =
    let same_length : length mapped ≡ length values = ap length (sym e) ∙ length-map values f in
    let before : sets array 0 values ≡ values ++ drop (length values) array = rw (zero-add (length values)) at (sets-eq values array 0 (omega arith)) in
    let after : sets array 0 mapped ≡ mapped ++ drop (length mapped) array = rw (zero-add (length mapped)) at (sets-eq mapped array 0 (omega arith)) in
    rw (before, after, take_at values (drop (length values) array) (length values) refl, drop_at values (drop (length values) array) (length values) refl, e, same_length)

module _ {plain : Bool} (given : Block) (within : BlockWithin given) (w : WorkingTable)
    (worked : Worked plain (held_of given).coefficient (held_of given).monomial (held_of given).terms (length given.table) given.variables w) where
  -- The block's tree with normalised atoms.
  abbrev pub normal_tree : Node NumberedAtom
  normal_tree = each_atom_of (normalised w.number w.turned) given.tree

  -- Its numbers are below 64, its sets are of three bits, AND and OR take turns, and it has at most 6 nestings.
  pub normal-within : PartsWithin 6 64 0 (alone normal_tree)
  normal-within =
      subst (PartsWithin 6 64 0) (alone-each (normalised w.number w.turned) given.tree)
      (normalised-within w.number w.turned 6 (length given.table) 0 (alone given.tree) worked.below within.tree)

  -- It has as many nodes as the block's.
  pub normal-nodes : nodes (alone normal_tree) ≡ nodes (alone given.tree)
  normal-nodes = ap nodes (sym (alone-each (normalised w.number w.turned) given.tree)) ∙ nodes-each (normalised w.number w.turned) (alone given.tree)

  -- Its root is of the block's kind.
  pub normal-kind : kind_of normal_tree ≡ (held_of given).root
  unfolding held_of
  normal-kind = kind-each (normalised w.number w.turned) given.tree

  -- The tape brought to normal form has its tokens.
  pub normal-tape : normal_tokens w.number w.turned (held_of given).tokens (held_of given).token ≡ sets (replicate 255 0) 0 (tokens (alone normal_tree))
  unfolding held_of
  normal-tape =
      let few : length (tokens (alone given.tree)) ≤ length (replicate {A = ℕ} 255 0)
      = rw (length-tokens (alone given.tree), length-replicate {A = ℕ} 255 0) within.nodes in
      let same = tokens-normal w.number w.turned 6 (length given.table) 0 (alone given.tree) within.polynomials within.tree
      ∙ ap tokens (alone-each (normalised w.number w.turned) given.tree) in
      rw (← length-tokens (alone given.tree))
      (stored-mapped (normal_unless_node w.number w.turned) (replicate 255 0) (tokens (alone given.tree)) (tokens (alone normal_tree)) few same)

  -- So the tape holds the normalised tree.
  pub normal-holds : Holds (normal_tokens w.number w.turned (held_of given).tokens (held_of given).token) (held_of given).tokens normal_tree
  unfolding held_of
  normal-holds = record {
    stored = ap (take (nodes (alone given.tree))) normal-tape
        ∙ stored-first (replicate 255 0) (tokens (alone normal_tree)) (nodes (alone given.tree)) (sym normal-nodes ∙ sym (length-tokens (alone normal_tree)))
        (rw (length-tokens (alone normal_tree), normal-nodes, length-replicate {A = ℕ} 255 0) within.nodes);
    counted = sym normal-nodes;
    few = within.nodes;
    slots = within-names 6 0 (alone normal_tree) normal-within;
  }

  -- With the forms of the working table in its slots it has the normal forms of the block's atoms.
  pub normal-forms : each_atom_of (in_slot (table_of given.variables w)) normal_tree ≡ each_atom_of (λ a. normal (looked_up given.table a)) given.tree
  unfolding in_slot normalised
  normal-forms =
      tree-after (in_slot (table_of given.variables w)) (normalised w.number w.turned) given.tree
      ∙ tree-agrees (λ a. in_slot (table_of given.variables w) (normalised w.number w.turned a)) (λ a. normal (looked_up given.table a))
      6 (length given.table) 0 given.tree within.tree
      (atom-normal (held_of given).coefficient (held_of given).monomial (held_of given).terms given.variables given.table (held-table given within) w worked)
