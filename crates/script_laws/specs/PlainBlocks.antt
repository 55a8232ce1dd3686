-- The blocks that have a script are the plain ones.
use Rattle.std.specs.Prelude.{Bool, true, false, ◌||◌, List, [], ◌∷◌, ◌≡◌, refl, ℕ, zero, suc, ◌+◌, ◌-◌, ◌<◌, ◌≤◌, length, get_or}
use Rattle.std.proofs.lemmas.Bool.{false≢true}
use Rattle.std.proofs.Common.{sym, ap, ap₂, subst, ◌∙◌, arith}
use Rattle.rules.specs.Polynomial.{Polynomial, Atom, same}
use Rattle.rules.specs.Formula.{Parts, end, atom, and, or, Node, leaf, all_of, any_of, before, alone, each_atom, each_atom_of, nodes}
use Rattle.rules.specs.Block.{NumberedAtom, Block}
use Rattle.rules.specs.Limits.{PolynomialWithin, TableWithin, no_polynomials, polynomials, PartsWithin, BlockWithin}
use Rattle.rules.specs.Answer.{looked_up, formula_of, knows, added_unless, used, here_or, number_in, numbered, block_of}
use Rattle.sign_laws.specs.Lists.{Every, every_none, every}
use Rattle.ending_laws.specs.Nestings.{alone-each}
use Rattle.ending_laws.specs.Shapes.{nodes-each}
use Rattle.level_laws.specs.Written.{added-knows, used-keeps}
use Rattle.rules.specs.Text.{PlainParts, PlainTree, plain_true, plain_false, plain_tree, Plain}
use Rattle.script_laws.specs.Shaped.{Shaped, NodeFits, used-each}
use Rattle.script_laws.specs.Root.{RootFits, root_true, root_false, root_node}
use Rattle.script_laws.specs.Script.{Declared}

-- ---- A plain block has a script.

pub every-loaded : {P : Polynomial → Type 0} {table : List Polynomial} (i : ℕ) → i < length table → Every P table → P (get_or table i [])
every-loaded i h every_none = absurd (omega arith)
every-loaded zero h (every k ks) = k
every-loaded (suc i) h (every k ks) = every-loaded i (omega arith) ks

pub table-every : {n : ℕ} {table : List Polynomial} → TableWithin n table → Every (PolynomialWithin n) table
table-every no_polynomials = every_none
table-every (polynomials h hs) = every h (table-every hs)

every-table : {n : ℕ} {table : List Polynomial} → Every (PolynomialWithin n) table → TableWithin n table
every-table every_none = no_polynomials
every-table (every h hs) = polynomials h (every-table hs)

parts-shaped : (n : ℕ) (table : List Polynomial) → Every (PolynomialWithin n) table → (d parent : ℕ) (parts : Parts NumberedAtom) → PartsWithin d (length table) parent parts
    → PlainParts (each_atom (looked_up table) parts) → Shaped n d parent (each_atom (looked_up table) parts)
unfolding PartsWithin PlainParts Shaped each_atom looked_up
parts-shaped n table each d parent end h k = tt
parts-shaped n table each d parent (atom a rest) h k =
    (record { within = every-loaded a.number h.0 each; not_empty = k.0; not_full = k.1 }, parts-shaped n table each d parent rest h.2 k.2)
parts-shaped n table each d parent (and kids rest) h k =
    (h.0, h.1, k.0, parts-shaped n table each (d - 1) 1 kids h.2 k.1, parts-shaped n table each d parent rest h.3 k.2)
parts-shaped n table each d parent (or kids rest) h k =
    (h.0, h.1, k.0, parts-shaped n table each (d - 1) 2 kids h.2 k.1, parts-shaped n table each d parent rest h.3 k.2)

root-of : {n : ℕ} {tree : Node Atom} → PlainTree tree → (PlainParts (alone tree) → NodeFits n 6 0 [] 254 tree) → RootFits n tree
root-of plain_true h = root_true
root-of plain_false h = root_false
root-of (plain_tree k) h = root_node (h k)

table_of : (block : Block) → block_of block.variables (formula_of block) ≡ block → used [] (alone (formula_of block)) ≡ block.table
unfolding block_of
table_of block listed = ap (λ (b : Block). b.table) listed

node-fits : (block : Block) → Plain block → PlainParts (alone (formula_of block)) → NodeFits block.variables 6 0 [] 254 (formula_of block)
unfolding formula_of
node-fits block h k =
    let f = looked_up block.table in
    let same = sym (alone-each f block.tree) in
    let few = h.accepted.nodes in
    let counted : nodes (alone (each_atom_of f block.tree)) ≡ nodes (alone block.tree) = ap (λ (p : Parts Atom). nodes p) same ∙ nodes-each f (alone block.tree) in
    record {
      shaped = subst (Shaped block.variables 6 0) (sym same)
          (parts-shaped block.variables block.table (table-every h.accepted.table) 6 0 (alone block.tree) h.accepted.tree (subst PlainParts same k));
      listed = subst (λ (table : List Polynomial). length table ≤ 64) (sym (table_of block h.listed)) h.accepted.polynomials;
      fits = omega arith;
    }

pub plain-declared : (block : Block) → Plain block → Declared 0 16 block
plain-declared block h = record {
  some = h.accepted.some_variables;
  from = omega arith;
  to = h.accepted.variables;
  root = record { variables = refl; listed = h.listed; fits = root-of h.plain (node-fits block h) };
}

-- ---- A block that has a script is plain.

shaped-plain : (n d parent : ℕ) (parts : Parts Atom) → Shaped n d parent parts → PlainParts parts
unfolding PlainParts Shaped
shaped-plain n d parent end h = tt
shaped-plain n d parent (atom a rest) h = (h.0.not_empty, h.0.not_full, shaped-plain n d parent rest h.1)
shaped-plain n d parent (and kids rest) h = (h.2, shaped-plain n (d - 1) 1 kids h.3, shaped-plain n d parent rest h.4)
shaped-plain n d parent (or kids rest) h = (h.2, shaped-plain n (d - 1) 2 kids h.3, shaped-plain n d parent rest h.4)

root-plain : {n : ℕ} {tree : Node Atom} → RootFits n tree → PlainTree tree
root-plain root_true = plain_true
root-plain root_false = plain_false
root-plain {n} (root_node {tree = tree} h) = plain_tree (shaped-plain n 6 0 (alone tree) h.shaped)

known-below : (table : List Polynomial) (p : Polynomial) → knows table p ≡ true → number_in table p < length table
unfolding knows number_in here_or
known-below [] p e = absurd (false≢true e)
known-below (q ∷ qs) p e = by-test (same p q) e (known-below qs p)
  where
    by-test : (b : Bool) → b || knows qs p ≡ true → (knows qs p ≡ true → number_in qs p < length qs) → here_or b (suc (number_in qs p)) < suc (length qs)
    by-test true e further = omega arith
    by-test false e further = let less = further e in omega arith

parts_within : (n : ℕ) (table sofar : List Polynomial) (d parent : ℕ) (parts : Parts Atom) → Shaped n d parent parts
    → ((p : Polynomial) → knows (used sofar parts) p ≡ true → knows table p ≡ true) → PartsWithin d (length table) parent (each_atom (numbered table) parts)
unfolding PartsWithin Shaped each_atom numbered used
parts_within n table sofar d parent end h k = tt
parts_within n table sofar d parent (atom a rest) h k =
    let p = a.polynomial in
    let after : List Polynomial = added_unless (knows sofar p) p sofar in
    let high = h.0.not_full in
    (known-below table p (k p (used-keeps after rest p (added-knows (knows sofar p) sofar p refl))), omega arith, parts_within n table after d parent rest h.1 k)
parts_within n table sofar d parent (and kids rest) h k =
    (h.0, h.1, parts_within n table sofar (d - 1) 1 kids h.3 (λ p e. k p (used-keeps (used sofar kids) rest p e)), parts_within n table (used sofar kids) d parent rest h.4 k)
parts_within n table sofar d parent (or kids rest) h k =
    (h.0, h.1, parts_within n table sofar (d - 1) 2 kids h.3 (λ p e. k p (used-keeps (used sofar kids) rest p e)), parts_within n table (used sofar kids) d parent rest h.4 k)

node-within : (n : ℕ) (tree : Node Atom) → 1 ≤ n → n ≤ 16 → NodeFits n 6 0 [] 254 tree → BlockWithin (block_of n tree)
unfolding block_of
node-within n tree some few h =
    let table = used [] (alone tree) in
    let tree-same = sym (alone-each (numbered table) tree) in
    let counted : nodes (alone (each_atom_of (numbered table) tree)) ≡ nodes (alone tree) = ap (λ (p : Parts NumberedAtom). nodes p) tree-same ∙ nodes-each (numbered table) (alone tree) in
    let fits = h.fits in
    record {
      some_variables = some;
      variables = few;
      polynomials = h.listed;
      nodes = omega arith;
      table = every-table (used-each n 6 0 (alone tree) h.shaped every_none);
      tree = subst (PartsWithin 6 (length table) 0) (sym tree-same) (parts_within n table [] 6 0 (alone tree) h.shaped (λ p e. e));
    }

apart-1 : ◌≡◌ {A = ℕ} 0 1 → ⊥
apart-1 e = omega arith

apart-2 : ◌≡◌ {A = ℕ} 0 2 → ⊥
apart-2 e = omega arith

true-within : (n : ℕ) → 1 ≤ n → n ≤ 16 → BlockWithin (block_of n (all_of end))
unfolding block_of used alone before nodes each_atom_of each_atom PartsWithin
true-within n some few = record {
  some_variables = some;
  variables = few;
  polynomials = omega arith;
  nodes = omega arith;
  table = no_polynomials;
  tree = (apart-1, omega arith, tt, tt);
}

false-within : (n : ℕ) → 1 ≤ n → n ≤ 16 → BlockWithin (block_of n (any_of end))
unfolding block_of used alone before nodes each_atom_of each_atom PartsWithin
false-within n some few = record {
  some_variables = some;
  variables = few;
  polynomials = omega arith;
  nodes = omega arith;
  table = no_polynomials;
  tree = (apart-2, omega arith, tt, tt);
}

root-within : (n : ℕ) {tree : Node Atom} → 1 ≤ n → n ≤ 16 → RootFits n tree → BlockWithin (block_of n tree)
root-within n some few root_true = true-within n some few
root-within n some few root_false = false-within n some few
root-within n some few (root_node {tree = tree} h) = node-within n tree some few h

pub declared-plain : (block : Block) → Declared 0 16 block → Plain block
declared-plain block h = record {
  accepted = subst BlockWithin h.root.listed (root-within block.variables h.some h.to h.root.fits);
  listed = h.root.listed;
  plain = root-plain h.root.fits;
}
