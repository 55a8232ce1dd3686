-- The shape of a tree that has a text: what Limits and Plain say of a block, said of its formula. And what a node before other parts is.
use Rattle.std.specs.Prelude.{Bool, true, false, List, [], ◌∷◌, ◌++◌, ◌≡◌, refl, ℕ, suc, ◌+◌, ◌-◌, ◌<◌, ◌≤◌, length}
use Rattle.std.proofs.Common.{append_assoc, sym, ap, ◌∙◌, arith, length-append}
use Rattle.rules.specs.Polynomial.{Polynomial, Atom}
use Rattle.rules.specs.Formula.{Parts, end, atom, and, or, Node, leaf, all_of, any_of, before, alone, children, nodes}
use Rattle.rules.specs.Limits.{PolynomialWithin}
use Rattle.rules.specs.Answer.{knows, added_unless, used}
use Rattle.rules.specs.Text.{bytes, parts_text, node_text, opening, closing, polynomial_text}
use Rattle.script_laws.specs.Known.{Table, with-each}
use Rattle.sign_laws.specs.Lists.{Every}

-- An atom with a text: its polynomial within the limits, its set not empty and not full.
pub record Plainly (n : ℕ) (a : Atom) : Type 0 where
  pub within : PolynomialWithin n a.polynomial
  pub not_empty : 0 < a.set
  pub not_full : a.set < 7

-- d nestings left, below a parent of this kind.
unfoldable pub Shaped : ℕ → ℕ → ℕ → Parts Atom → Type 0
Shaped n d parent end = Unit {0}
Shaped n d parent (atom a rest) = Plainly n a × Shaped n d parent rest
Shaped n d parent (and kids rest) = (parent ≡ 1 → ⊥) × (0 < d) × (2 ≤ children kids) × Shaped n (d - 1) 1 kids × Shaped n d parent rest
Shaped n d parent (or kids rest) = (parent ≡ 2 → ⊥) × (0 < d) × (2 ≤ children kids) × Shaped n (d - 1) 2 kids × Shaped n d parent rest

-- A node that may stand here: its shape, the table with its polynomials, and its nodes, one of which it has to itself.
pub record NodeFits (n d parent : ℕ) (known : List Polynomial) (room : ℕ) (node : Node Atom) : Type 0 where
  pub shaped : Shaped n d parent (alone node)
  pub listed : length (used known (alone node)) ≤ 64
  pub fits : nodes (alone node) ≤ suc room

-- Parts that may stand here, with so many nodes and so many children at most.
pub record PartsFit (n d parent : ℕ) (known : List Polynomial) (room most : ℕ) (parts : Parts Atom) : Type 0 where
  pub shaped : Shaped n d parent parts
  pub listed : length (used known parts) ≤ 64
  pub fits : nodes parts ≤ room
  pub few : children parts ≤ most

-- ---- A node before other parts.

module _ (n d parent : ℕ) where
  pub before-shaped : (node : Node Atom) (rest : Parts Atom) → Shaped n d parent (alone node) → Shaped n d parent rest → Shaped n d parent (before node rest)
  unfolding Shaped before alone
  before-shaped (leaf a) rest h k = (h.0, k)
  before-shaped (all_of kids) rest h k = (h.0, h.1, h.2, h.3, k)
  before-shaped (any_of kids) rest h k = (h.0, h.1, h.2, h.3, k)

  pub shaped-first : (node : Node Atom) (rest : Parts Atom) → Shaped n d parent (before node rest) → Shaped n d parent (alone node)
  unfolding Shaped before alone
  shaped-first (leaf a) rest h = (h.0, tt)
  shaped-first (all_of kids) rest h = (h.0, h.1, h.2, h.3, tt)
  shaped-first (any_of kids) rest h = (h.0, h.1, h.2, h.3, tt)

  pub shaped-rest : (node : Node Atom) (rest : Parts Atom) → Shaped n d parent (before node rest) → Shaped n d parent rest
  unfolding Shaped before
  shaped-rest (leaf a) rest h = h.1
  shaped-rest (all_of kids) rest h = h.4
  shaped-rest (any_of kids) rest h = h.4

pub before-used : (known : List Polynomial) (node : Node Atom) (rest : Parts Atom) → used known (before node rest) ≡ used (used known (alone node)) rest
unfolding used before alone
before-used known (leaf a) rest = refl
before-used known (all_of kids) rest = refl
before-used known (any_of kids) rest = refl

pub before-nodes : (node : Node Atom) (rest : Parts Atom) → nodes (before node rest) ≡ nodes (alone node) + nodes rest
unfolding nodes before alone
before-nodes (leaf a) rest = omega arith
before-nodes (all_of kids) rest = omega arith
before-nodes (any_of kids) rest = omega arith

pub some-node : (node : Node Atom) → 1 ≤ nodes (alone node)
unfolding nodes before alone
some-node (leaf a) = omega arith
some-node (all_of kids) = omega arith
some-node (any_of kids) = omega arith

pub before-children : (node : Node Atom) (rest : Parts Atom) → children (before node rest) ≡ suc (children rest)
unfolding children before
before-children (leaf a) rest = omega arith
before-children (all_of kids) rest = omega arith
before-children (any_of kids) rest = omega arith

pub children-at-most : (parts : Parts Atom) → children parts ≤ nodes parts
unfolding children nodes
children-at-most end = omega arith
children-at-most (atom a rest) = omega (arith, children-at-most rest)
children-at-most (and kids rest) = omega (arith, children-at-most rest)
children-at-most (or kids rest) = omega (arith, children-at-most rest)

pub before_text : (n : ℕ) (node : Node Atom) (rest : Parts Atom) → parts_text n (before node rest) ≡ bytes " " ++ (node_text n node ++ parts_text n rest)
unfolding parts_text node_text before
before_text n (leaf a) rest = ap (λ (l : List ℕ). bytes " " ++ l) (sym (
    append_assoc (opening a.set) (polynomial_text n a.polynomial ++ (bytes " " ++ closing a.set)) (parts_text n rest)
    ∙ ap (λ (l : List ℕ). opening a.set ++ l) (append_assoc (polynomial_text n a.polynomial) (bytes " " ++ closing a.set) (parts_text n rest))))
before_text n (all_of kids) rest = ap (λ (l : List ℕ). bytes " (and" ++ l) (sym (append_assoc (parts_text n kids) (bytes ")") (parts_text n rest)))
before_text n (any_of kids) rest = ap (λ (l : List ℕ). bytes " (or" ++ l) (sym (append_assoc (parts_text n kids) (bytes ")") (parts_text n rest)))

-- ---- The table behind the parts.

with-longer : (b : Bool) (known : List Polynomial) (p : Polynomial) → length known ≤ length (added_unless b p known)
unfolding added_unless
with-longer true known p = omega arith
with-longer false known p = let more : length (known ++ (p ∷ [])) ≡ length known + 1 = length-append known (p ∷ []) in omega arith

pub used-longer : (known : List Polynomial) (parts : Parts Atom) → length known ≤ length (used known parts)
unfolding used
used-longer known end = omega arith
used-longer known (atom a rest) =
    let one = with-longer (knows known a.polynomial) known a.polynomial in
    let others = used-longer (added_unless (knows known a.polynomial) a.polynomial known) rest in
    omega arith
used-longer known (and kids rest) = let one = used-longer known kids in let others = used-longer (used known kids) rest in omega arith
used-longer known (or kids rest) = let one = used-longer known kids in let others = used-longer (used known kids) rest in omega arith

pub used-each : (n d parent : ℕ) (parts : Parts Atom) {known : List Polynomial} → Shaped n d parent parts → Every (PolynomialWithin n) known → Every (PolynomialWithin n) (used known parts)
unfolding Shaped used
used-each n d parent end h each = each
used-each n d parent (atom a rest) {known} h each = used-each n d parent rest h.1 (with-each (knows known a.polynomial) each h.0.within)
used-each n d parent (and kids rest) h each = used-each n d parent rest h.4 (used-each n (d - 1) 1 kids h.3 each)
used-each n d parent (or kids rest) h each = used-each n d parent rest h.4 (used-each n (d - 1) 2 kids h.3 each)

-- It is a table again.
pub used-table : (n d parent : ℕ) (parts : Parts Atom) {known : List Polynomial} → Shaped n d parent parts → length (used known parts) ≤ 64 → Table n known → Table n (used known parts)
used-table n d parent parts h few table = record { each = used-each n d parent parts h table.each; few = few }
