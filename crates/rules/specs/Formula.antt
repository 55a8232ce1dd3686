-- 01, "What is built": "A formula is a tree of AND, OR and atoms." The tree of a block has atoms that name a polynomial by its number,
-- the tree that is simplified has atoms with the polynomial itself: one kind of tree, over any kind of atom.
use Rattle.std.specs.Prelude.{Bool, true, false, List, [], ◌∷◌, ◌++◌, ℕ, ◌+◌}

-- The parts of an AND or an OR, in order. "An AND with no children is true, an OR with none is false."
pub data Parts (A : Type 0) : Type 0 where
  end : Parts A
  atom : A → Parts A → Parts A
  and : Parts A → Parts A → Parts A
  or : Parts A → Parts A → Parts A

-- A node: an atom, an AND of its parts, an OR of its parts.
pub data Node (A : Type 0) : Type 0 where
  leaf : A → Node A
  all_of : Parts A → Node A
  any_of : Parts A → Node A

-- A node put before other parts.
unfoldable pub before : {A : Type 0} → Node A → Parts A → Parts A
before (leaf a) rest = atom a rest
before (all_of kids) rest = and kids rest
before (any_of kids) rest = or kids rest

unfoldable pub is_end : {A : Type 0} → Parts A → Bool
is_end end = true
is_end (atom a rest) = false
is_end (and kids rest) = false
is_end (or kids rest) = false

-- Another kind of atom at the same places.
unfoldable pub each_atom : {A B : Type 0} → (A → B) → Parts A → Parts B
each_atom f end = end
each_atom f (atom a rest) = atom (f a) (each_atom f rest)
each_atom f (and kids rest) = and (each_atom f kids) (each_atom f rest)
each_atom f (or kids rest) = or (each_atom f kids) (each_atom f rest)

unfoldable pub each_atom_of : {A B : Type 0} → (A → B) → Node A → Node B
each_atom_of f (leaf a) = leaf (f a)
each_atom_of f (all_of kids) = all_of (each_atom f kids)
each_atom_of f (any_of kids) = any_of (each_atom f kids)

-- The atoms in reading order, parent before children.
unfoldable pub in_order : {A : Type 0} → Parts A → List A
in_order end = []
in_order (atom a rest) = a ∷ in_order rest
in_order (and kids rest) = in_order kids ++ in_order rest
in_order (or kids rest) = in_order kids ++ in_order rest

-- How many children, how many nodes ("tree nodes, atoms counted"), how many atoms.
unfoldable pub children : {A : Type 0} → Parts A → ℕ
children end = 0
children (atom a rest) = 1 + children rest
children (and kids rest) = 1 + children rest
children (or kids rest) = 1 + children rest

unfoldable pub nodes : {A : Type 0} → Parts A → ℕ
nodes end = 0
nodes (atom a rest) = 1 + nodes rest
nodes (and kids rest) = 1 + nodes kids + nodes rest
nodes (or kids rest) = 1 + nodes kids + nodes rest

unfoldable pub atoms : {A : Type 0} → Parts A → ℕ
atoms end = 0
atoms (atom a rest) = 1 + atoms rest
atoms (and kids rest) = atoms kids + atoms rest
atoms (or kids rest) = atoms kids + atoms rest

-- The whole tree as the only part.
unfoldable pub alone : {A : Type 0} → Node A → Parts A
alone node = before node end

-- To unfold this is to unfold every definition of this file.
unfoldable pub open_formula : Unit {0}
unfolding before is_end each_atom each_atom_of in_order children nodes atoms alone
open_formula = tt
