-- Law never-longer: atoms, nodes, polynomials and bytes of the new block are at most the given block's, its polynomials counted as the forms that its
-- tree uses. Atoms and nodes for every block; the table, and with it the bytes, for a block within the limits.
use Rattle.std.specs.Prelude.{Bool, true, false, ◌≡◌, refl, List, [], ◌∷◌, map, ℕ, ◌+◌, ◌≤◌, neg_ℤ, length}
use Rattle.std.proofs.Common.{sym, ap, ap₂, ◌∙◌, arith, lit≤, length-append}
use mathlib.Core.List.{Memᴰ as Member}
use Rattle.rules.specs.Signs.{SignSet, full}
use Rattle.rules.specs.Polynomial.{Polynomial, Atom, divided, turned, first_is_negative, normal}
use Rattle.rules.specs.Formula.{Node, each_atom_of, alone, nodes, atoms}
use Rattle.rules.specs.Level.{Placed, plain, placed_tree}
use Rattle.rules.specs.Block.{Block, Edition, write_table, block_length}
use Rattle.rules.specs.Limits.{BlockWithin}
use Rattle.rules.specs.Answer.{looked_up, formula_of, used, numbered, block_of, forms_used, simplified, new_block}
use Rattle.sign_laws.specs.Lists.{Every, every_none}
use Rattle.level_laws.specs.Written.{placed_tree-plain}
use Rattle.block_laws.specs.Sizes.{polynomial_bits, same_bits, no_longer}
use Rattle.rules.specs.Polynomial.{normal_form}
use Rattle.length_laws.specs.Weight.{weight, one, weight-nodes, weight-atoms, weight-each-of}
use Rattle.length_laws.specs.Shorter.{simplify-lighter}
use Rattle.length_laws.specs.Alternation.{TreeAlternates, tree-each, tree-alone}
use Rattle.length_laws.specs.Formed.{Given, Formed, FormedAt}
use Rattle.length_laws.specs.LevelKeeps.{simplify-keeps}
use Rattle.length_laws.specs.Pigeonhole.{every-member, Distinct, none_distinct, total, pigeonhole}
use Rattle.length_laws.specs.Table.{used-distinct, used-every}
use Rattle.length_laws.specs.Blocks.{forms_of, tree-given, tree_placed}
use Rattle.length_laws.specs.FormsUsed.{forms-once, forms-own, forms-among, tree-uses}

-- ---- Atoms and nodes.

-- Atoms with their places count as the atoms.
placed-weight : (w : ℕ) (tree : Node Atom) → weight one w (alone (placed_tree tree)) ≡ weight one w (alone tree)
placed-weight w tree = sym (weight-each-of one w plain (placed_tree tree)) ∙ ap (λ (t : Node Atom). weight one w (alone t)) (placed_tree-plain tree)

simplified-lighter : (w : ℕ) → w ≤ 1 → (given : Block) → weight one w (alone (simplified given)) ≤ weight one w (alone given.tree)
unfolding simplified formula_of
simplified-lighter w small given =
    omega (
      arith,
      simplify-lighter (λ k. 1) w (λ k. (small, omega arith)) given.variables (placed_tree (formula_of given)),
      placed-weight w (formula_of given),
      weight-each-of one w (looked_up given.table) given.tree,
    )

-- The simplified formula has no more atoms than the block's tree.
pub atoms-never-more : (given : Block) → atoms (alone (simplified given)) ≤ atoms (alone given.tree)
atoms-never-more given =
    omega (arith, simplified-lighter 0 (lit≤ tt) given, weight-atoms (alone (simplified given)), weight-atoms (alone given.tree))

-- And no more nodes.
pub nodes-never-more : (given : Block) → nodes (alone (simplified given)) ≤ nodes (alone given.tree)
nodes-never-more given =
    omega (arith, simplified-lighter 1 (lit≤ tt) given, weight-nodes (alone (simplified given)), weight-nodes (alone given.tree))

-- The new block's tree has the atoms and nodes of the simplified formula.
new-weight : (w : ℕ) (given : Block) → weight one w (alone (new_block given).tree) ≡ weight one w (alone (simplified given))
unfolding new_block block_of
new-weight w given =
    let short = each_atom_of plain (simplified given) in
    weight-each-of one w (numbered (used [] (alone short))) short ∙ weight-each-of one w plain (simplified given)

-- The new block's tree has no more atoms.
pub new-atoms : (given : Block) → atoms (alone (new_block given).tree) ≤ atoms (alone given.tree)
new-atoms given =
    omega (arith, atoms-never-more given, new-weight 0 given, weight-atoms (alone (new_block given).tree), weight-atoms (alone (simplified given)))

-- And no more nodes.
pub new-nodes : (given : Block) → nodes (alone (new_block given).tree) ≤ nodes (alone given.tree)
new-nodes given =
    omega (arith, nodes-never-more given, new-weight 1 given, weight-nodes (alone (new_block given).tree), weight-nodes (alone (simplified given)))

-- ---- The table.

-- The formula of a block within the limits: atoms in polynomials of the table, AND and OR alternating.
pub formula-given : (given : Block) → BlockWithin given → TreeAlternates (Given (forms_of given.table)) 5 (formula_of given)
unfolding formula_of
formula-given given h = tree-given given.table given.tree h.tree

-- The forms that its tree uses are their own normal forms,
pub used-own : (given : Block) → BlockWithin given → (p : Polynomial) → Member p (forms_used (formula_of given)) → normal_form p ≡ p
used-own given h p m = every-member (forms-own (formula-given given h)) m

-- and they are normal forms of the table's polynomials.
pub used-of-table : (given : Block) → BlockWithin given → Every (λ (p : Polynomial). Member p (forms_of given.table)) (forms_used (formula_of given))
used-of-table given h = forms-among (formula-given given h)

-- The simplified formula: atoms in forms that the block's tree uses, AND and OR alternating.
pub simplified-formed : (given : Block) → BlockWithin given → TreeAlternates (Formed (forms_used (formula_of given))) 5 (each_atom_of plain (simplified given))
unfolding simplified
simplified-formed given h =
    let forms = forms_used (formula_of given) in
    tree-each plain (λ (a : Placed) (k : FormedAt (λ (place : ℕ) (p : Polynomial). Member p forms) a). record { small = k.small; form = k.form })
    (simplify-keeps (λ place p m. used-own given h p m) given.variables
    (tree_placed (λ k a l e g. record { small = g.small; form = g.form }) (tree-uses (formula-given given h))))

-- The new table repeats nothing.
pub new-distinct : (given : Block) → Distinct (new_block given).table
unfolding new_block block_of
new-distinct given = used-distinct (alone (each_atom_of plain (simplified given))) none_distinct

-- And holds only forms that the given tree uses.
pub new-forms : (given : Block) → BlockWithin given → Every (λ (p : Polynomial). Member p (forms_used (formula_of given))) (new_block given).table
unfolding new_block block_of
new-forms given h = tree-alone (simplified-formed given h) (λ join k. used-every (λ a formed. formed.form) k every_none)

total-mapped : (w : Polynomial → ℕ) (f : Polynomial → Polynomial) → ((p : Polynomial) → w (f p) ≡ w p) → (l : List Polynomial) → total w (map f l) ≡ total w l
unfolding total
total-mapped w f h [] = refl
total-mapped w f h (p ∷ ps) = ap₂ (λ (j k : ℕ). j + k) (h p) (total-mapped w f h ps)

-- By any weight the new table weighs no more than the forms that the given tree uses,
pub table-never-heavier : (w : Polynomial → ℕ) (given : Block) → BlockWithin given → total w (new_block given).table ≤ total w (forms_used (formula_of given))
table-never-heavier w given h = pigeonhole w (new-distinct given) (new-forms given h)

-- and by one that ignores the coefficients these weigh no more than the given table.
pub used-never-heavier : (w : Polynomial → ℕ) → ((p : Polynomial) → w (normal_form p) ≡ w p) → (given : Block) → BlockWithin given
    → total w (forms_used (formula_of given)) ≤ total w given.table
used-never-heavier w ignores given h =
    omega (arith, pigeonhole w (forms-once (formula_of given)) (used-of-table given h), total-mapped w normal_form ignores given.table)

total-count : (l : List Polynomial) → total (λ (p : Polynomial). 1) l ≡ length l
unfolding total
total-count [] = refl
total-count (p ∷ ps) = omega (arith, total-count ps)

-- The new block has no more polynomials than the given tree uses forms,
pub polynomials-never-more : (given : Block) → BlockWithin given → length (new_block given).table ≤ length (forms_used (formula_of given))
polynomials-never-more given h =
    omega (arith, table-never-heavier (λ p. 1) given h, total-count (new_block given).table, total-count (forms_used (formula_of given)))

-- which are no more than the given table has.
pub used-never-more : (given : Block) → BlockWithin given → length (forms_used (formula_of given)) ≤ length given.table
used-never-more given h =
    omega (arith, used-never-heavier (λ p. 1) (λ p. refl) given h, total-count (forms_used (formula_of given)), total-count given.table)

-- ---- Bytes.

-- The new block keeps n.
pub new-variables : (given : Block) → (new_block given).variables ≡ given.variables
unfolding new_block block_of
new-variables given = refl

turned-bits : (edition : Edition) (n : ℕ) (b : Bool) (p : Polynomial) (set : SignSet)
    → polynomial_bits edition n (turned b p set).polynomial ≡ polynomial_bits edition n p
unfolding turned
turned-bits edition n true p set = same_bits edition n neg_ℤ p
turned-bits edition n false p set = refl

-- A normal form takes the bits of its polynomial.
pub normal_form-bits : (edition : Edition) (n : ℕ) (p : Polynomial) → polynomial_bits edition n (normal_form p) ≡ polynomial_bits edition n p
unfolding normal_form normal divided
normal_form-bits edition n p = turned-bits edition n (first_is_negative (divided p)) (divided p) full ∙ same_bits edition n _ p

total-bits : (edition : Edition) (n : ℕ) (l : List Polynomial) → total (polynomial_bits edition n) l ≡ length (write_table edition n l)
unfolding total write_table
total-bits edition n [] = refl
total-bits edition n (p ∷ ps) = rw (length-append, total-bits edition n ps)

-- The new block's table takes no more bits.
pub table-never-longer : (edition : Edition) (given : Block) → BlockWithin given
    → length (write_table edition (new_block given).variables (new_block given).table) ≤ length (write_table edition given.variables given.table)
table-never-longer edition given h =
    rw (new-variables given) (omega (
      arith,
      table-never-heavier (polynomial_bits edition given.variables) given h,
      used-never-heavier (polynomial_bits edition given.variables) (normal_form-bits edition given.variables) given h,
      total-bits edition given.variables (new_block given).table,
      total-bits edition given.variables given.table,
    ))

-- The new block has no more bytes, in the same edition.
pub bytes-never-more : (edition : Edition) (given : Block) → BlockWithin given → block_length edition (new_block given) ≤ block_length edition given
bytes-never-more edition given h = no_longer edition (new_block given) given (table-never-longer edition given h) (new-nodes given) (new-atoms given)

-- ---- The law.

-- The atoms, nodes, polynomials and bytes of one block are at most another's, whose polynomials are the forms that its tree uses.
pub record NoLonger (edition : Edition) (new given : Block) : Type 0 where
  pub atoms : atoms (alone new.tree) ≤ atoms (alone given.tree)
  pub nodes : nodes (alone new.tree) ≤ nodes (alone given.tree)
  pub polynomials : length new.table ≤ length (forms_used (formula_of given))
  pub bytes : block_length edition new ≤ block_length edition given

-- The new block is in no count longer than the given one, both in the same edition.
pub never-longer : (edition : Edition) (given : Block) → BlockWithin given → NoLonger edition (new_block given) given
never-longer edition given h = record {
  atoms = new-atoms given;
  nodes = new-nodes given;
  polynomials = polynomials-never-more given h;
  bytes = bytes-never-more edition given h;
}
