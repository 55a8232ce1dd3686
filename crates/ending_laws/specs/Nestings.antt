-- The nestings of the AND rule and the OR rule never run out: on a tree of a block, which has at most 6, `and_rule` is 01's rule with no such number.
-- 01, "A level": "The AND rule and the OR rule call one another, each time one nesting lower."
use Rattle.std.specs.Prelude.{◌≡◌, refl, List, ℕ, zero, suc, ◌+◌, ◌-◌, ◌≤◌, ◌<◌, max, length}
use Rattle.std.proofs.Common.{ap, ap₂, ◌∙◌, zero-le, arith, le_refl}
use Rattle.std.proofs.Math.Nat.{max-le}
use Rattle.rules.specs.Polynomial.{Atom}
use Rattle.rules.specs.Formula.{Parts, end, atom, and, or, Node, leaf, all_of, any_of, before, each_atom, each_atom_of, alone, atoms, open_formula}
use Rattle.rules.specs.Level.{Placed, Formula, placed_from, placed_tree, dual, dual_node, atoms_of, ors_of, add, enter, gather, after_gather, and_rule, as_node, simplify}
use Rattle.rules.specs.Block.{NumberedAtom, Block}
use Rattle.rules.specs.Limits.{PartsWithin, BlockWithin}
use Rattle.rules.specs.Answer.{looked_up, formula_of, simplified}
use Rattle.sign_laws.specs.Lists.{Every, every_none, every, every_append}

-- How deep AND and OR are nested in the parts of a node, the node itself not counted.
unfoldable pub nesting : {A : Type 0} → Parts A → ℕ
nesting end = 0
nesting (atom a rest) = nesting rest
nesting (and kids rest) = max (1 + nesting kids) (nesting rest)
nesting (or kids rest) = max (1 + nesting kids) (nesting rest)

-- The dual has the same nesting.
pub dual-nesting : (kids : Formula) → nesting (dual kids) ≡ nesting kids
unfolding nesting dual
dual-nesting end = refl
dual-nesting (atom a rest) = dual-nesting rest
dual-nesting (and kids rest) = ap₂ (λ k r. max (1 + k) r) (dual-nesting kids) (dual-nesting rest)
dual-nesting (or kids rest) = ap₂ (λ k r. max (1 + k) r) (dual-nesting kids) (dual-nesting rest)

-- Other atoms at the same places leave the nesting as it is.
pub each_atom-nesting : {A B : Type 0} (f : A → B) (kids : Parts A) → nesting (each_atom f kids) ≡ nesting kids
unfolding nesting each_atom
each_atom-nesting f end = refl
each_atom-nesting f (atom a rest) = each_atom-nesting f rest
each_atom-nesting f (and kids rest) = ap₂ (λ k r. max (1 + k) r) (each_atom-nesting f kids) (each_atom-nesting f rest)
each_atom-nesting f (or kids rest) = ap₂ (λ k r. max (1 + k) r) (each_atom-nesting f kids) (each_atom-nesting f rest)

-- ---- The OR children of an AND are nested one lower.

abbrev Below : ℕ → Formula → Type 0
Below m child = nesting child < m

ors-below : (m : ℕ) (kids : Formula) → nesting kids ≤ m → Every (Below m) (ors_of kids)
unfolding nesting ors_of
ors-below m end h = every_none
ors-below m (atom a rest) h = ors-below m rest h
ors-below m (and kids rest) h = every_append (ors-below m kids (omega arith)) (ors-below m rest (omega arith))
ors-below m (or kids rest) h = every {a = kids} (omega arith) (ors-below m rest (omega arith))

gather-same : (m : ℕ) (f g : Formula → Formula) → ((child : Formula) → nesting child < m → f child ≡ g child)
    → {ors : List Formula} → Every (Below m) ors → gather f ors ≡ gather g ors
unfolding gather
gather-same m f g agree every_none = refl
gather-same m f g agree (every {a = child} h hs) = ap₂ (λ found walk. add (enter found) walk) (agree child h) (gather-same m f g agree hs)

-- The OR children of an AND, simplified by two rules that agree on what is nested lower than the AND's parts.
children-same : (kids : Formula) (f g : Formula → Formula) → ((lower : Formula) → nesting lower < nesting kids → f lower ≡ g lower)
    → gather (λ child. dual (f (dual child))) (ors_of kids) ≡ gather (λ child. dual (g (dual child))) (ors_of kids)
children-same kids f g agree =
    gather-same (nesting kids) _ _ (λ child h. ap dual (agree (dual child) (rw (dual-nesting child) h))) (ors-below (nesting kids) kids (le_refl _))

-- Any two numbers of nestings above those of the parts give the same.
pub enough-nestings : (n d e : ℕ) (kids : Formula) → nesting kids < d → nesting kids < e → and_rule n d kids ≡ and_rule n e kids
unfolding and_rule
enough-nestings n zero e kids h i = absurd (omega arith)
enough-nestings n (suc d) zero kids h i = absurd (omega arith)
enough-nestings n (suc d) (suc e) kids h i =
    ap (after_gather n (atoms_of kids)) (children-same kids (and_rule n d) (and_rule n e) (λ lower j. enough-nestings n d e lower (omega arith) (omega arith)))

-- More nestings change nothing.
pub more-nestings-change-nothing : (n d : ℕ) (kids : Formula) → nesting kids < d → and_rule n (suc d) kids ≡ and_rule n d kids
more-nestings-change-nothing n d kids h = enough-nestings n (suc d) d kids (omega arith) h

-- ---- The AND rule with no number of nestings.

-- One nesting more than the parts have is always enough.
unfoldable pub unbounded_and_rule : ℕ → Formula → Formula
unbounded_and_rule n kids = and_rule n (1 + nesting kids) kids

-- The AND rule as 01 says it: its OR children go through the OR rule, which is the AND rule between two duals.
pub no-nesting-missing : (n : ℕ) (kids : Formula)
    → unbounded_and_rule n kids ≡ after_gather n (atoms_of kids) (gather (λ child. dual (unbounded_and_rule n (dual child))) (ors_of kids))
unfolding and_rule unbounded_and_rule
no-nesting-missing n kids =
    enough-nestings n (1 + nesting kids) (suc (nesting kids)) kids (omega arith) (omega arith)
    ∙ ap (after_gather n (atoms_of kids))
    (children-same kids (and_rule n (nesting kids)) (unbounded_and_rule n) (λ lower h. enough-nestings n (nesting kids) (1 + nesting lower) lower h (omega arith)))

-- Within its nestings, the book's rule is that one: what it gives where they run out is never reached.
pub and_rule-unbounded : (n d : ℕ) (kids : Formula) → nesting kids < d → and_rule n d kids ≡ unbounded_and_rule n kids
unfolding unbounded_and_rule
and_rule-unbounded n d kids h = enough-nestings n d (1 + nesting kids) kids h (omega arith)

-- ---- The whole tree of a block.

-- A tree simplified by a rule for the parts of an AND.
unfoldable pub simplify_by : (Formula → Formula) → Node Placed → Node Placed
simplify_by rule (leaf a) = as_node (rule (atom a end))
simplify_by rule (all_of kids) = as_node (rule kids)
simplify_by rule (any_of kids) = dual_node (as_node (rule (dual kids)))

-- A tree of at most 6 nestings is simplified by the rule with no number of nestings.
pub simplify-unbounded : (n : ℕ) (tree : Node Placed) → nesting (alone tree) ≤ 6 → simplify n tree ≡ simplify_by (unbounded_and_rule n) tree
unfolding nesting alone before simplify simplify_by
simplify-unbounded n (leaf a) h = ap as_node (and_rule-unbounded n 6 (atom a end) (omega arith))
simplify-unbounded n (all_of kids) h = ap as_node (and_rule-unbounded n 6 kids (omega arith))
simplify-unbounded n (any_of kids) h = ap (λ k. dual_node (as_node k)) (and_rule-unbounded n 6 (dual kids) (omega (arith, dual-nesting kids)))

-- Parts within the limits of a block have at most the nestings that are left to them.
pub parts-nesting : (d m parent : ℕ) (kids : Parts NumberedAtom) → PartsWithin d m parent kids → nesting kids ≤ d
unfolding nesting PartsWithin
parts-nesting d m parent end within = zero-le
parts-nesting d m parent (atom a rest) within = parts-nesting d m parent rest within.2
parts-nesting d m parent (and kids rest) within =
    max-le (omega (arith, within.1, parts-nesting (d - 1) m 1 kids within.2)) (parts-nesting d m parent rest within.3)
parts-nesting d m parent (or kids rest) within =
    max-le (omega (arith, within.1, parts-nesting (d - 1) m 2 kids within.2)) (parts-nesting d m parent rest within.3)

-- Other atoms in a tree that is the only part.
pub alone-each : {A B : Type 0} (f : A → B) (tree : Node A) → each_atom f (alone tree) ≡ alone (each_atom_of f tree)
unfolding open_formula
alone-each f (leaf a) = refl
alone-each f (all_of kids) = refl
alone-each f (any_of kids) = refl

-- Atoms with their places leave the nesting as it is.
placed_from-nesting : (k : ℕ) (kids : Parts Atom) → nesting (placed_from k kids) ≡ nesting kids
unfolding nesting placed_from
placed_from-nesting k end = refl
placed_from-nesting k (atom a rest) = placed_from-nesting (1 + k) rest
placed_from-nesting k (and kids rest) = ap₂ (λ k r. max (1 + k) r) (placed_from-nesting k kids) (placed_from-nesting (k + atoms kids) rest)
placed_from-nesting k (or kids rest) = ap₂ (λ k r. max (1 + k) r) (placed_from-nesting k kids) (placed_from-nesting (k + atoms kids) rest)

placed_tree-nesting : (tree : Node Atom) → nesting (alone (placed_tree tree)) ≡ nesting (alone tree)
unfolding nesting alone before placed_tree
placed_tree-nesting (leaf a) = refl
placed_tree-nesting (all_of kids) = ap (λ k. max (1 + k) 0) (placed_from-nesting 0 kids)
placed_tree-nesting (any_of kids) = ap (λ k. max (1 + k) 0) (placed_from-nesting 0 kids)

-- The formula that a block within the limits holds has at most 6 nestings.
pub formula-nesting : (block : Block) → BlockWithin block → nesting (alone (placed_tree (formula_of block))) ≤ 6
unfolding formula_of
formula-nesting block within =
    rw (placed_tree-nesting (each_atom_of (looked_up block.table) block.tree), ← alone-each (looked_up block.table) block.tree, each_atom-nesting)
    (parts-nesting 6 (length block.table) 0 (alone block.tree) within.tree)

-- Each block within the limits is simplified by the rules of 01, with no number of nestings.
pub simplified-unbounded : (block : Block) → BlockWithin block → simplified block ≡ simplify_by (unbounded_and_rule block.variables) (placed_tree (formula_of block))
unfolding simplified
simplified-unbounded block within = simplify-unbounded block.variables (placed_tree (formula_of block)) (formula-nesting block within)
