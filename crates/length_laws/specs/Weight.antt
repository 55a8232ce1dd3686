-- The weight of a formula: each atom counts what v says of it, each AND or OR counts w. With 1 and w = 1 that is how many nodes it has, with 1 and
-- w = 0 how many atoms; with 1 for the place q alone and w = 0 how often q is a place. So one proof that the level rules add no weight serves all.
use Rattle.std.specs.Prelude.{◌≡◌, refl, List, [], ◌∷◌, ◌++◌, ℕ, ◌+◌, ◌≤◌}
use Rattle.std.proofs.Common.{sym, ap, ap₂, ◌∙◌, arith}
use Rattle.rules.specs.Formula.{Parts, end, atom, and, or, Node, leaf, all_of, any_of, alone, each_atom, each_atom_of, nodes, atoms, open_formula}
use Rattle.rules.specs.Level.{Placed, Formula, complemented, dual, dual_node, atoms_of, ors_of, or_parts, parts}
use Rattle.ending_laws.specs.Nestings.{alone-each}
use Rattle.length_laws.specs.Pigeonhole.{total, total-append}

-- So much for each atom, w for each AND and OR.
unfoldable pub weight : {A : Type 0} → (A → ℕ) → ℕ → Parts A → ℕ
weight v w end = 0
weight v w (atom a rest) = v a + weight v w rest
weight v w (and kids rest) = w + weight v w kids + weight v w rest
weight v w (or kids rest) = w + weight v w kids + weight v w rest

-- Each atom counts 1.
abbrev pub one : {A : Type 0} → A → ℕ
one a = 1

-- Each atom counts what its place does.
abbrev pub by_place : (ℕ → ℕ) → Placed → ℕ
by_place v a = v a.place

-- What a list of atoms weighs.
abbrev pub load : (ℕ → ℕ) → List Placed → ℕ
load v l = total (by_place v) l

-- With w = 1 it is the number of nodes.
pub weight-nodes : {A : Type 0} (f : Parts A) → weight one 1 f ≡ nodes f
unfolding weight nodes
weight-nodes end = refl
weight-nodes (atom a rest) = ap (λ (k : ℕ). 1 + k) (weight-nodes rest)
weight-nodes (and kids rest) = ap₂ (λ (j k : ℕ). 1 + j + k) (weight-nodes kids) (weight-nodes rest)
weight-nodes (or kids rest) = ap₂ (λ (j k : ℕ). 1 + j + k) (weight-nodes kids) (weight-nodes rest)

-- With w = 0 it is the number of atoms.
pub weight-atoms : {A : Type 0} (f : Parts A) → weight one 0 f ≡ atoms f
unfolding weight atoms
weight-atoms end = refl
weight-atoms (atom a rest) = ap (λ (k : ℕ). 1 + k) (weight-atoms rest)
weight-atoms (and kids rest) = omega (arith, weight-atoms kids, weight-atoms rest)
weight-atoms (or kids rest) = omega (arith, weight-atoms kids, weight-atoms rest)

-- Other atoms at the same places, in parts, weigh what the first ones count.
pub weight-each : {A B : Type 0} (v : B → ℕ) (w : ℕ) (g : A → B) (f : Parts A) → weight v w (each_atom g f) ≡ weight (λ (a : A). v (g a)) w f
unfolding weight each_atom
weight-each v w g end = refl
weight-each v w g (atom a rest) = ap (λ (k : ℕ). v (g a) + k) (weight-each v w g rest)
weight-each v w g (and kids rest) = ap₂ (λ (j k : ℕ). w + j + k) (weight-each v w g kids) (weight-each v w g rest)
weight-each v w g (or kids rest) = ap₂ (λ (j k : ℕ). w + j + k) (weight-each v w g kids) (weight-each v w g rest)

-- And so in a whole tree.
pub weight-each-of : {A B : Type 0} (v : B → ℕ) (w : ℕ) (g : A → B) (node : Node A)
    → weight v w (alone (each_atom_of g node)) ≡ weight (λ (a : A). v (g a)) w (alone node)
weight-each-of v w g node = ap (weight v w) (sym (alone-each g node)) ∙ weight-each v w g (alone node)

-- Complement and exchange keep the weight of parts.
pub weight-dual : (v : ℕ → ℕ) (w : ℕ) (f : Formula) → weight (by_place v) w (dual f) ≡ weight (by_place v) w f
unfolding weight dual complemented
weight-dual v w end = refl
weight-dual v w (atom a rest) = ap (λ (k : ℕ). v a.place + k) (weight-dual v w rest)
weight-dual v w (and kids rest) = ap₂ (λ (j k : ℕ). w + j + k) (weight-dual v w kids) (weight-dual v w rest)
weight-dual v w (or kids rest) = ap₂ (λ (j k : ℕ). w + j + k) (weight-dual v w kids) (weight-dual v w rest)

-- And of a whole tree.
pub weight-dual-node : (v : ℕ → ℕ) (w : ℕ) (node : Node Placed) → weight (by_place v) w (alone (dual_node node)) ≡ weight (by_place v) w (alone node)
unfolding weight open_formula dual_node complemented
weight-dual-node v w (leaf a) = refl
weight-dual-node v w (all_of kids) = ap (λ (k : ℕ). w + k + 0) (weight-dual v w kids)
weight-dual-node v w (any_of kids) = ap (λ (k : ℕ). w + k + 0) (weight-dual v w kids)

-- ---- The OR children of an AND.

-- Each child counts w itself.
unfoldable pub weight_ors : (ℕ → ℕ) → ℕ → List Formula → ℕ
weight_ors v w [] = 0
weight_ors v w (child ∷ later) = w + weight (by_place v) w child + weight_ors v w later

-- Lists of children one after the other weigh what both weigh.
pub weight_ors-append : (v : ℕ → ℕ) (w : ℕ) (xs ys : List Formula) → weight_ors v w (xs ++ ys) ≡ weight_ors v w xs + weight_ors v w ys
unfolding weight_ors
weight_ors-append v w [] ys = omega arith
weight_ors-append v w (child ∷ later) ys = omega (arith, weight_ors-append v w later ys)

weight-ors : (v : ℕ → ℕ) (w : ℕ) (ors : List Formula) → weight (by_place v) w (or_parts ors) ≡ weight_ors v w ors
unfolding weight weight_ors or_parts
weight-ors v w [] = refl
weight-ors v w (child ∷ later) = ap (λ (k : ℕ). w + weight (by_place v) w child + k) (weight-ors v w later)

-- The parts that step 6 puts together weigh what its atoms and OR children weigh.
pub weight-parts : (v : ℕ → ℕ) (w : ℕ) (l : List Placed) (ors : List Formula) → weight (by_place v) w (parts l ors) ≡ load v l + weight_ors v w ors
unfolding weight parts total
weight-parts v w [] ors = omega (arith, weight-ors v w ors)
weight-parts v w (a ∷ l) ors = omega (arith, weight-parts v w l ors)

-- The direct atoms and the OR children that step 1 takes weigh no more than the parts.
pub weight-split : (v : ℕ → ℕ) (w : ℕ) (f : Formula) → load v (atoms_of f) + weight_ors v w (ors_of f) ≤ weight (by_place v) w f
unfolding weight weight_ors atoms_of ors_of total
weight-split v w end = omega arith
weight-split v w (atom a rest) = omega (arith, weight-split v w rest)
weight-split v w (and kids rest) =
    omega (arith, weight-split v w kids, weight-split v w rest, total-append (by_place v) (atoms_of kids) (atoms_of rest), weight_ors-append v w (ors_of kids) (ors_of rest))
weight-split v w (or kids rest) = omega (arith, weight-split v w rest)
