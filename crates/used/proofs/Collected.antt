-- What the copies and the renumbered tape are together: what the block of the tree holds.
-- The last step of the proof of `collect`: each number and each array is that of the book's block.
use mathlib.Core.Path.{◌≡◌, refl, sym, ap, ◌∙◌}
use mathlib.Core.List.{List, [], ◌++◌, map}
use Prim.Native.Nat.{ℕ, ◌+◌, ◌<◌, ◌≤◌}
use native.Mathlib.Omega.{arith}
use lib.IntN.{ℤ}
use lib.ListN.{length, get_or, take, drop, replicate, length-map, length-replicate, get_or-append}
use lib.Seq.{sets, sets-eq, take-append_seam, length-sets}
use Rattle.rules.specs.Polynomial.{Polynomial}
use Rattle.rules.specs.Formula.{Node, leaf, all_of, any_of, each_atom, each_atom_of, before, alone, nodes}
use Rattle.rules.specs.Block.{NumberedAtom, Block}
use Rattle.rules.specs.Answer.{used, numbered, block_of}
use Rattle.sign_laws.specs.Lists.{Every, every_none, every-get_d}
use Rattle.ending_laws.specs.Shapes.{nodes-each}
use Rattle.terms.specs.View.{numbers_from}
use Rattle.table.specs.Table.{Table, form_at, Forms}
use Rattle.block.specs.Held.{slots, tokens, kind_of, held_by, held_over}
use Rattle.used.specs.Tape.{in_slot, forms_in, Holds}
use Rattle.used.specs.FirstUse.{order_of, UsedFit, Ordered, Copied, renumbered}
use Rattle.used.proofs.Slots.{slots-below}
use Rattle.used.proofs.FirstUse.{Below, uses-below}
use Rattle.used.proofs.Numbering.{used-forms, tokens-renumbered}
use Rattle.used.proofs.Copying.{numbers-run}

-- ---- The array of the order.

-- The order stands at the front of its array.
order-first : {order array array' number : List ℕ} {used : ℕ} → length array ≡ 64 → Ordered order array array' number used → array' ≡ order ++ drop used array
order-first {order} {array} size o =
    let fits : 0 + length order ≤ length array = omega (arith, o.counted, o.few) in
    let e : 0 + length order ≡ length order = omega arith in
    o.stored ∙ sets-eq order array 0 fits ∙ rw (e, o.counted)

-- So it is what the array lists,
pub order-listed : {order array array' number : List ℕ} {used : ℕ} → length array ≡ 64 → Ordered order array array' number used
    → numbers_from array' 0 used ≡ order
order-listed {order} {array} {array'} {number} {used} size o =
    let fits : 0 + used ≤ length array' = omega (arith, ap length o.stored, length-sets array 0 order, o.few) in
    numbers-run array' 0 used fits ∙ rw (order-first size o, o.counted) (take-append_seam order (drop (length order) array))

-- and its slots are below 64.
pub order-fits : {token : List ℕ} {count : ℕ} {tree : Node NumberedAtom} {array array' number : List ℕ} {used : ℕ} → Holds token count tree → length array ≡ 64
    → Ordered (order_of (take count token)) array array' number used → UsedFit array' used
order-fits {token} {count} {tree} {array} {array'} {number} {used} h size o =
    let order = order_of (take count token) in
    let below : Every Below order = rw h.stored (uses-below every_none (slots-below (alone tree) h.slots)) in
    record {
      few = o.few;
      long = omega (arith, ap length o.stored, length-sets array 0 order, o.few);
      slots = λ i l.
          let within : i < length order = omega (arith, o.counted) in
          let there : get_or array' i 0 ≡ get_or order i 0 =
          ap (λ (l : List ℕ). get_or l i 0) (order-first size o) ∙ get_or-append order (drop used array) 0 i within in
          rw there (every-get_d i 0 (omega arith) below);
    }

-- ---- The block.

module _ {A B : Type 0} (f : A → B) where
  alone-each : (tree : Node A) → alone (each_atom_of f tree) ≡ each_atom f (alone tree)
  unfolding alone before each_atom_of each_atom
  alone-each (leaf a) = refl
  alone-each (all_of kids) = refl
  alone-each (any_of kids) = refl

kind-each : {A : Type 0} (f : A → NumberedAtom) (g : NumberedAtom → A) (tree : Node NumberedAtom) → kind_of (each_atom_of f (each_atom_of g tree)) ≡ kind_of tree
unfolding kind_of each_atom_of
kind-each f g (leaf a) = refl
kind-each f g (all_of kids) = refl
kind-each f g (any_of kids) = refl

-- Arrays that a block is stored over, each by itself.
held_same : (block : Block) (cs : List ℤ) (ms counts token : List ℕ) {n m kind count : ℕ} {cs' : List ℤ} {ms' counts' token' : List ℕ} → n ≡ block.variables
    → m ≡ length block.table → kind ≡ kind_of block.tree → count ≡ nodes (alone block.tree) → cs' ≡ slots (λ t. t.coefficient) 0 block.table cs
    → ms' ≡ slots (λ t. t.monomial) 0 block.table ms → counts' ≡ sets counts 0 (map length block.table)
    → token' ≡ sets token 0 (tokens (alone block.tree)) → held_by n m kind count cs' ms' counts' token' ≡ held_over cs ms counts token block
held_same block cs ms counts token e₁ e₂ e₃ e₄ e₅ e₆ e₇ e₈ = rw (e₁, e₂, e₃, e₄, e₅, e₆, e₇, e₈)

module _ {table : Table} (forms : Forms table) {token : List ℕ} {count : ℕ} {tree : Node NumberedAtom} (h : Holds token count tree)
    {order number : List ℕ} {polynomials : ℕ} (o : Ordered (order_of (take count token)) (replicate 64 0) order number polynomials) where
  abbrev new : List Polynomial
  new = map (form_at table) (order_of (take count token))

  -- The used forms are those in the slots of the order.
  pub table_is : used [] (alone (each_atom_of (in_slot table) tree)) ≡ new
  table_is = rw (alone-each (in_slot table) tree, h.stored) (used-forms forms (alone tree) h.slots)

  abbrev block : Block
  block = record { variables = table.variables; table = new; tree = each_atom_of (numbered new) (each_atom_of (in_slot table) tree) }

  block-is : block_of table.variables (each_atom_of (in_slot table) tree) ≡ block
  unfolding block_of
  block-is = rw table_is

  tree_is : alone block.tree ≡ each_atom (numbered new) (each_atom (in_slot table) (alone tree))
  tree_is = alone-each (numbered new) (each_atom_of (in_slot table) tree) ∙ ap (each_atom (numbered new)) (alone-each (in_slot table) tree)

  nodes-is : count ≡ nodes (alone block.tree)
  nodes-is = h.counted ∙ sym (rw (tree_is, nodes-each (numbered new) (each_atom (in_slot table) (alone tree))) (nodes-each (in_slot table) (alone tree)))

  tokens-is : map (renumbered number) (take count token) ≡ tokens (alone block.tree)
  tokens-is = rw (tree_is, h.stored) (sym (tokens-renumbered forms (alone tree) h.slots (rw h.stored at o.numbers)))

  -- The block is stored over the arrays that were lent.
  pub collected : (cs₀ : List ℤ) (ms₀ counts₀ tape₀ : List ℕ) {cs : List ℤ} {ms counts tape : List ℕ}
      → Copied (forms_in table order polynomials) cs₀ cs ms₀ ms counts₀ counts → tape ≡ sets tape₀ 0 (map (renumbered number) (take count token))
      → held_by table.variables polynomials (kind_of tree) count cs ms counts tape
      ≡ held_over cs₀ ms₀ counts₀ tape₀ (block_of table.variables (each_atom_of (in_slot table) tree))
  collected cs₀ ms₀ counts₀ tape₀ c t =
      let forms-copied = rw (order-listed (length-replicate {A = ℕ} 64 0) o) at c in
      held_same block cs₀ ms₀ counts₀ tape₀ refl (o.counted ∙ sym (length-map (order_of (take count token)) (form_at table)))
      (sym (kind-each (numbered new) (in_slot table) tree)) nodes-is
      forms-copied.coefficients forms-copied.monomials forms-copied.counts (t ∙ ap (sets tape₀ 0) tokens-is)
      ∙ ap (held_over cs₀ ms₀ counts₀ tape₀) (sym block-is)
