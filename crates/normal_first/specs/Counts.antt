-- Request #108: the largest number of rounds that one run took is the same if all atoms of the tree are brought to normal form first.
-- The runs are over the atoms that step 2 leaves, and those are in normal form.
use Rattle.std.specs.Prelude.{◌≡◌, refl, List, [], ◌∷◌, ◌++◌, map, ℕ, zero, suc, ◌+◌, ◌<◌, ◌≤◌, max}
use Rattle.std.proofs.Common.{sym, ap, ap₂, ◌∙◌, append-nil, append_assoc, le_refl, arith}
use Rattle.rules.specs.Polynomial.{Atom, normal}
use Rattle.rules.specs.Formula.{end, atom, and, or, Node, leaf, all_of, any_of, before, each_atom, each_atom_of, alone}
use Rattle.rules.specs.Level.{Placed, placed_tree, normal_placed, Formula, dual, atoms_of, ors_of, Walk, falls, still, moved, enter, gather, Tidied, after_merging, tidy, inner_all, and_rule, or_rule}
use Rattle.rules.specs.Count.{tidy_count, settle_count, settled_count, unless_fails, gather_count, gathered_count, rule_count, most_rounds}
use Rattle.rules.specs.Block.{Block}
use Rattle.rules.specs.Limits.{BlockWithin}
use Rattle.rules.specs.Answer.{looked_up, formula_of}
use Rattle.ending_laws.specs.Nestings.{nesting, dual-nesting, formula-nesting}
use Rattle.normal_first.specs.NormalFirst.{dual-normal, merge-normal, atoms-normal, gather-normal-first, and_rule-normal-first, each-after-of, placed-normal-tree}

settle-counted : (n : ℕ) (l new : List Placed) (ors : List Formula) → settled_count n (map normal_placed l ++ new) ors ≡ settled_count n (l ++ new) ors
unfolding settled_count settle_count tidy
settle-counted n l new ors =
    let one-turn : 1 + inner_all ors ≡ suc (inner_all ors) = omega arith in
    rw one-turn (ap (λ (t : Tidied). tidy_count n (after_merging t) ors (λ (m : List Placed) (later : List Formula). settle_count n (inner_all ors) m later))
    (merge-normal [] l new))

gathered-counted : (n : ℕ) (l : List Placed) (walk : Walk) → gathered_count n (map normal_placed l) walk ≡ gathered_count n l walk
unfolding gathered_count
gathered-counted n l falls = refl
gathered-counted n l (still ors) =
    ap (λ (m : List Placed). settled_count n m ors) (sym (append-nil (map normal_placed l))) ∙ settle-counted n l [] ors
    ∙ ap (λ (m : List Placed). settled_count n m ors) (append-nil l)
gathered-counted n l (moved new ors) = settle-counted n l new ors

-- The OR children, by a rule and a count that are the same for normal forms first on what is nested lower.
children-counted : (m : ℕ) (count : Formula → ℕ) (rule : Formula → Formula)
    → ((child : Formula) → nesting child < m → (count (each_atom normal_placed child) ≡ count child) × (rule (each_atom normal_placed child) ≡ rule child))
    → (kids : Formula) → nesting kids ≤ m → (later also : List Formula) → gather_count count rule later ≡ gather_count count rule also
    → gather_count count rule (ors_of (each_atom normal_placed kids) ++ later) ≡ gather_count count rule (ors_of kids ++ also)
unfolding nesting each_atom ors_of gather_count
children-counted m count rule agree end h later also e = e
children-counted m count rule agree (atom a rest) h later also e = children-counted m count rule agree rest h later also e
children-counted m count rule agree (and kids rest) h later also e =
    rw (append_assoc (ors_of (each_atom normal_placed kids)) (ors_of (each_atom normal_placed rest)) later, append_assoc (ors_of kids) (ors_of rest) also)
    (children-counted m count rule agree kids (omega arith) (ors_of (each_atom normal_placed rest) ++ later) (ors_of rest ++ also)
    (children-counted m count rule agree rest (omega arith) later also e))
children-counted m count rule agree (or kids rest) h later also e =
    let same = agree kids (omega arith) in
    ap₂ max same.0 (ap₂ (λ (found : Formula) (counted : ℕ). unless_fails (enter found) counted) same.1 (children-counted m count rule agree rest (omega arith) later also e))

-- The AND rule counts the same for atoms in normal form.
pub rule-counted-first : (n d : ℕ) (kids : Formula) → nesting kids < d → rule_count n d (each_atom normal_placed kids) ≡ rule_count n d kids
unfolding rule_count or_rule
rule-counted-first n zero kids h = absurd (omega arith)
rule-counted-first n (suc d) kids h =
    let count : Formula → ℕ = λ child. rule_count n d (dual child) in
    let agree : (child : Formula) → nesting child < nesting kids
    → (count (each_atom normal_placed child) ≡ count child) × (or_rule n d (each_atom normal_placed child) ≡ or_rule n d child)
    = λ child lower. (
      ap (rule_count n d) (dual-normal child) ∙ rule-counted-first n d (dual child) (omega (arith, dual-nesting child)),
      ap dual (ap (and_rule n d) (dual-normal child) ∙ and_rule-normal-first n d (dual child) (omega (arith, dual-nesting child))),
    ) in
    let children = children-counted (nesting kids) count (or_rule n d) agree kids (le_refl (nesting kids)) [] [] refl in
    ap₂ max (rw (append-nil (ors_of (each_atom normal_placed kids)), append-nil (ors_of kids)) at children)
    (ap₂ (gathered_count n) (atoms-normal kids) (gather-normal-first n d kids (λ lower below. and_rule-normal-first n d lower (omega arith)))
    ∙ gathered-counted n (atoms_of kids) (gather (or_rule n d) (ors_of kids)))

-- A tree of at most 6 nestings.
pub tree-counted-first : (n : ℕ) (tree : Node Placed) → nesting (alone tree) ≤ 6 → most_rounds n (each_atom_of normal_placed tree) ≡ most_rounds n tree
unfolding nesting alone before each_atom_of each_atom most_rounds
tree-counted-first n (leaf a) h = rule-counted-first n 6 (atom a end) (omega arith)
tree-counted-first n (all_of kids) h = rule-counted-first n 6 kids (omega arith)
tree-counted-first n (any_of kids) h = ap (rule_count n 6) (dual-normal kids) ∙ rule-counted-first n 6 (dual kids) (omega (arith, dual-nesting kids))

-- A block within the limits is counted from the normal forms of its table.
pub block-counted-first : (block : Block) → BlockWithin block
    → most_rounds block.variables (placed_tree (each_atom_of (λ a. normal (looked_up block.table a)) block.tree))
    ≡ most_rounds block.variables (placed_tree (formula_of block))
unfolding formula_of
block-counted-first block within =
    ap (λ (tree : Node Atom). most_rounds block.variables (placed_tree tree)) (sym (each-after-of normal (looked_up block.table) block.tree))
    ∙ ap (most_rounds block.variables) (placed-normal-tree (formula_of block))
    ∙ tree-counted-first block.variables (placed_tree (formula_of block)) (formula-nesting block within)
