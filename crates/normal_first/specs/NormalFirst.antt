-- 01, "A level", step 2: "Bring atoms to normal form". It may be done first, to all atoms of the tree: the rules give the same result.
-- So a simplifier may number the normal forms of a block's table once, and never bring an atom to normal form again.
use Rattle.std.specs.Prelude.{◌≡◌, refl, Bool, true, false, not, List, [], ◌∷◌, ◌++◌, map, ℕ, zero, suc, ◌+◌, ◌<◌, ◌≤◌}
use Rattle.std.proofs.Common.{sym, ap, ap₂, ◌∙◌, append-nil, append_assoc, le_refl, arith}
use Rattle.std.proofs.Math.Path.{fun_ext}
use Rattle.std.proofs.lemmas.List.{map-append}
use Rattle.rules.specs.Signs.{SignSet, set_of, mirror_of_sign, complement, mirror}
use Rattle.rules.specs.Polynomial.{Polynomial, Atom, divided, first_is_negative, turned, normal, constant}
use Rattle.rules.specs.Formula.{Parts, end, atom, and, or, Node, leaf, all_of, any_of, before, each_atom, each_atom_of, atoms, alone}
use Rattle.rules.specs.Level.{Placed, plain, placed_at, placed_from, placed_tree, normal_placed, Formula, complemented, dual, dual_node, atoms_of, ors_of}
use Rattle.rules.specs.Level.{Walk, falls, still, moved, add, enter, gather, Tidied, merge_normal, merge}
use Rattle.rules.specs.Level.{after_merging, tidy, after_tidy, settle, inner_all, settled_down, after_gather, and_rule, or_rule, as_node, simplify}
use Rattle.rules.specs.Block.{Block}
use Rattle.rules.specs.Limits.{BlockWithin}
use Rattle.rules.specs.Answer.{looked_up, formula_of, simplified}
use Rattle.sign_laws.specs.Sets.{has-complement, has-mirror}
use Rattle.normal_laws.specs.Twice.{normal-twice}
use Rattle.ending_laws.specs.Shapes.{atoms-each}
use Rattle.ending_laws.specs.Nestings.{nesting, dual-nesting, formula-nesting}

-- ---- The complement of a normal form is the normal form of the complement.

mirror-complement : (s : SignSet) → mirror (complement s) ≡ complement (mirror s)
unfolding mirror complement
mirror-complement s = ap set_of (fun_ext (λ x. has-complement (mirror_of_sign x) s ∙ ap not (sym (has-mirror x s))))

turned-complemented : (b : Bool) (p : Polynomial) (s : SignSet) → turned b p (complement s) ≡ record { polynomial = (turned b p s).polynomial; set = complement (turned b p s).set }
unfolding turned
turned-complemented true p s = rw (mirror-complement s)
turned-complemented false p s = refl

normal-complemented : (a : Placed) → normal_placed (complemented a) ≡ complemented (normal_placed a)
unfolding normal_placed normal complemented
normal-complemented a = ap (placed_at a.place) (turned-complemented (first_is_negative (divided a.polynomial)) (divided a.polynomial) a.set)

-- The dual of normal forms has the normal forms of the dual.
pub dual-normal : (kids : Formula) → dual (each_atom normal_placed kids) ≡ each_atom normal_placed (dual kids)
unfolding dual each_atom
dual-normal end = refl
dual-normal (atom a rest) = ap₂ atom (sym (normal-complemented a)) (dual-normal rest)
dual-normal (and kids rest) = ap₂ or (dual-normal kids) (dual-normal rest)
dual-normal (or kids rest) = ap₂ and (dual-normal kids) (dual-normal rest)

-- ---- Step 2 brings normal forms to themselves.

normal-placed-twice : (a : Placed) → normal_placed (normal_placed a) ≡ normal_placed a
unfolding normal_placed
normal-placed-twice a = ap (placed_at a.place) (normal-twice (plain a))

pub merge-normal : (l new later : List Placed) → merge l (map normal_placed new ++ later) ≡ merge l (new ++ later)
unfolding merge
merge-normal l [] later = refl
merge-normal l (a ∷ new) later =
    ap₂ (λ (b : Placed) (more : List Placed → Tidied). merge_normal (constant b.polynomial) b l more) (normal-placed-twice a) (fun_ext (λ m. merge-normal m new later))

settle-normal : (n : ℕ) (l new : List Placed) (ors : List Formula) → settled_down n (map normal_placed l ++ new) ors ≡ settled_down n (l ++ new) ors
unfolding settled_down settle tidy
settle-normal n l new ors =
    let one-turn : 1 + inner_all ors ≡ suc (inner_all ors) = omega arith in
    rw one-turn (ap (λ (t : Tidied). after_tidy n (after_merging t) ors (λ (m : List Placed) (later : List Formula). settle n (inner_all ors) m later))
    (merge-normal [] l new))

gathered-normal : (n : ℕ) (l : List Placed) (walk : Walk) → after_gather n (map normal_placed l) walk ≡ after_gather n l walk
unfolding after_gather
gathered-normal n l falls = refl
gathered-normal n l (still ors) =
    ap (λ (m : List Placed). settled_down n m ors) (sym (append-nil (map normal_placed l))) ∙ settle-normal n l [] ors
    ∙ ap (λ (m : List Placed). settled_down n m ors) (append-nil l)
gathered-normal n l (moved new ors) = settle-normal n l new ors

-- ---- The AND rule.

pub atoms-normal : (kids : Formula) → atoms_of (each_atom normal_placed kids) ≡ map normal_placed (atoms_of kids)
unfolding atoms_of each_atom
atoms-normal end = refl
atoms-normal (atom a rest) = ap (λ (l : List Placed). normal_placed a ∷ l) (atoms-normal rest)
atoms-normal (and kids rest) = ap₂ ◌++◌ (atoms-normal kids) (atoms-normal rest) ∙ sym (map-append normal_placed (atoms_of kids) (atoms_of rest))
atoms-normal (or kids rest) = atoms-normal rest

-- The OR children, by a rule that gives the same for normal forms first on what is nested lower.
children-normal : (m : ℕ) (rule : Formula → Formula) → ((child : Formula) → nesting child < m → rule (each_atom normal_placed child) ≡ rule child)
    → (kids : Formula) → nesting kids ≤ m → (later also : List Formula) → gather rule later ≡ gather rule also
    → gather rule (ors_of (each_atom normal_placed kids) ++ later) ≡ gather rule (ors_of kids ++ also)
unfolding nesting each_atom ors_of gather
children-normal m rule agree end h later also e = e
children-normal m rule agree (atom a rest) h later also e = children-normal m rule agree rest h later also e
children-normal m rule agree (and kids rest) h later also e =
    rw (append_assoc (ors_of (each_atom normal_placed kids)) (ors_of (each_atom normal_placed rest)) later, append_assoc (ors_of kids) (ors_of rest) also)
    (children-normal m rule agree kids (omega arith) (ors_of (each_atom normal_placed rest) ++ later) (ors_of rest ++ also)
    (children-normal m rule agree rest (omega arith) later also e))
children-normal m rule agree (or kids rest) h later also e =
    ap₂ (λ (found : Formula) (walk : Walk). add (enter found) walk) (agree kids (omega arith)) (children-normal m rule agree rest (omega arith) later also e)

-- The AND rule gives the same for atoms in normal form, to the OR children of an AND and to it.
pub gather-normal-first : (n d : ℕ) (kids : Formula)
    → ((lower : Formula) → nesting lower < nesting kids → and_rule n d (each_atom normal_placed lower) ≡ and_rule n d lower)
    → gather (or_rule n d) (ors_of (each_atom normal_placed kids)) ≡ gather (or_rule n d) (ors_of kids)
unfolding or_rule
gather-normal-first n d kids lower =
    let rule : Formula → Formula = λ child. dual (and_rule n d (dual child)) in
    let agree : (child : Formula) → nesting child < nesting kids → rule (each_atom normal_placed child) ≡ rule child
    = λ child below. ap dual (ap (and_rule n d) (dual-normal child) ∙ lower (dual child) (omega (arith, dual-nesting child))) in
    rw (append-nil (ors_of (each_atom normal_placed kids)), append-nil (ors_of kids)) at (children-normal (nesting kids) rule agree kids (le_refl (nesting kids)) [] [] refl)

pub and_rule-normal-first : (n d : ℕ) (kids : Formula) → nesting kids < d → and_rule n d (each_atom normal_placed kids) ≡ and_rule n d kids
unfolding and_rule or_rule
and_rule-normal-first n zero kids h = absurd (omega arith)
and_rule-normal-first n (suc d) kids h =
    ap₂ (after_gather n) (atoms-normal kids) (gather-normal-first n d kids (λ lower below. and_rule-normal-first n d lower (omega arith)))
    ∙ gathered-normal n (atoms_of kids) (gather (or_rule n d) (ors_of kids))

-- ---- The whole tree.

-- A tree of at most 6 nestings is simplified to the same whether or not its atoms are brought to normal form first.
pub simplify-normal-first : (n : ℕ) (tree : Node Placed) → nesting (alone tree) ≤ 6 → simplify n (each_atom_of normal_placed tree) ≡ simplify n tree
unfolding nesting alone before each_atom_of each_atom simplify
simplify-normal-first n (leaf a) h = ap as_node (and_rule-normal-first n 6 (atom a end) (omega arith))
simplify-normal-first n (all_of kids) h = ap as_node (and_rule-normal-first n 6 kids (omega arith))
simplify-normal-first n (any_of kids) h =
    ap (λ (k : Formula). dual_node (as_node k))
    (ap (and_rule n 6) (dual-normal kids) ∙ and_rule-normal-first n 6 (dual kids) (omega (arith, dual-nesting kids)))

each_after : {A B C : Type 0} (f : B → C) (g : A → B) (kids : Parts A) → each_atom f (each_atom g kids) ≡ each_atom (λ a. f (g a)) kids
unfolding each_atom
each_after f g end = refl
each_after f g (atom a rest) = ap (atom (f (g a))) (each_after f g rest)
each_after f g (and kids rest) = ap₂ and (each_after f g kids) (each_after f g rest)
each_after f g (or kids rest) = ap₂ or (each_after f g kids) (each_after f g rest)

pub each-after-of : {A B C : Type 0} (f : B → C) (g : A → B) (tree : Node A) → each_atom_of f (each_atom_of g tree) ≡ each_atom_of (λ a. f (g a)) tree
unfolding each_atom_of
each-after-of f g (leaf a) = refl
each-after-of f g (all_of kids) = ap all_of (each_after f g kids)
each-after-of f g (any_of kids) = ap any_of (each_after f g kids)

-- Normal forms have the places of the atoms.
placed-normal : (k : ℕ) (kids : Parts Atom) → placed_from k (each_atom normal kids) ≡ each_atom normal_placed (placed_from k kids)
unfolding placed_from each_atom normal_placed
placed-normal k end = refl
placed-normal k (atom a rest) = ap (atom (placed_at k (normal a))) (placed-normal (1 + k) rest)
placed-normal k (and kids rest) = ap₂ and (placed-normal k kids) (ap (λ (j : ℕ). placed_from (k + j) (each_atom normal rest)) (atoms-each normal kids) ∙ placed-normal (k + atoms kids) rest)
placed-normal k (or kids rest) = ap₂ or (placed-normal k kids) (ap (λ (j : ℕ). placed_from (k + j) (each_atom normal rest)) (atoms-each normal kids) ∙ placed-normal (k + atoms kids) rest)

pub placed-normal-tree : (tree : Node Atom) → placed_tree (each_atom_of normal tree) ≡ each_atom_of normal_placed (placed_tree tree)
unfolding placed_tree each_atom_of normal_placed
placed-normal-tree (leaf a) = refl
placed-normal-tree (all_of kids) = ap all_of (placed-normal 0 kids)
placed-normal-tree (any_of kids) = ap any_of (placed-normal 0 kids)

-- A block within the limits is simplified from the normal forms of its table.
pub block-normal-first : (block : Block) → BlockWithin block
    → simplify block.variables (placed_tree (each_atom_of (λ a. normal (looked_up block.table a)) block.tree)) ≡ simplified block
unfolding simplified formula_of
block-normal-first block within =
    ap (λ (tree : Node Atom). simplify block.variables (placed_tree tree)) (sym (each-after-of normal (looked_up block.table) block.tree))
    ∙ ap (simplify block.variables) (placed-normal-tree (formula_of block))
    ∙ simplify-normal-first block.variables (placed_tree (formula_of block)) (formula-nesting block within)
