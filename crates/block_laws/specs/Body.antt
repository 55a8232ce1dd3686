-- What follows a block's head: the table, the tree and the zero bits up to the byte end. Within the limits it reads back when it is
-- written; accepted, it is within the limits and is written with the bits that were read.
use Rattle.std.specs.Prelude.{Bool, true, false, List, [], ◌∷◌, ◌++◌, ◌≡◌, refl, ℕ, zero, suc, ◌<◌, ltb, length, replicate}
use Rattle.std.proofs.lemmas.Bool.{false≢true}
use Rattle.std.proofs.Math.Bool.{and-eq-true_iff}
use Rattle.std.proofs.Common.{append_assoc, ap, subst₂, add-zero, zero-add, lt-ltb, ltb-true, eqb-true}
use Rattle.std.proofs.lemmas.List.{length-replicate}
use Rattle.rules.specs.Polynomial.{Polynomial}
use Rattle.rules.specs.Formula.{Node, alone, nodes}
use Rattle.rules.specs.Block.{NumberedAtom, Block, Edition, Stream, read, require, afterwards, all_zero, read_end, read_body, write_body}
use Rattle.rules.specs.Limits.{TableWithin, PartsWithin, BlockWithin}
use Rattle.block_laws.specs.Accepted.{require-read, afterwards-read, same_read, stream, Passed, passed-both}
use Rattle.block_laws.specs.Table.{TableAccepted, table-reads-back, table-accepted}
use Rattle.block_laws.specs.Tree.{TreeAccepted, tree-reads-back, tree-accepted}

zeros-pass : (k : ℕ) → all_zero (replicate k false) ≡ true
unfolding all_zero
zeros-pass zero = refl
zeros-pass (suc k) = zeros-pass k

zeros-accepted : (bs : List Bool) → all_zero bs ≡ true → bs ≡ replicate (length bs) false
unfolding all_zero
zeros-accepted [] passed = refl
zeros-accepted (true ∷ bs) passed = absurd (false≢true passed)
zeros-accepted (false ∷ bs) passed = ap (λ (x : List Bool). false ∷ x) (zeros-accepted bs passed)

-- The body of a block within the limits, written before fewer than eight zero bits, reads back.
pub body-reads-back : (edition : Edition) (block : Block) (zeros : ℕ) → BlockWithin block → zeros < 8
    → read_body edition block.variables (length block.table)
    (stream (nodes (alone block.tree)) (write_body edition block ++ replicate zeros false))
    ≡ read block (stream 0 (replicate zeros false))
unfolding read_body write_body afterwards read_end require
body-reads-back edition block zeros within few =
    let rest : List Bool = replicate zeros false in
    let few-left : ltb (length (replicate zeros false)) 8 ≡ true = rw length-replicate (lt-ltb zeros 8 few) in
    let tree = rw add-zero at (tree-reads-back 6 (length block.table) 0 0 block.tree rest within.polynomials within.tree within.nodes) in
    rw (
      append_assoc,
      table-reads-back edition block.variables block.table _ _ within.variables within.table,
      tree,
      few-left,
      zeros-pass zeros,
    )

-- What an accepted body tells: its bits are those that are written, it is within the limits, and fewer than eight zero bits are left.
pub record BodyAccepted (edition : Edition) (n m : ℕ) (s : Stream) (block : Block) (s₁ : Stream) : Type 0 where
  pub passed : Passed (write_body edition block) (nodes (alone block.tree)) s s₁
  pub variables : block.variables ≡ n
  pub polynomials : length block.table ≡ m
  pub table : TableWithin n block.table
  pub tree : PartsWithin 6 m 0 (alone block.tree)
  pub no_nodes_left : s₁.allowed ≡ 0
  pub few_bits_left : length s₁.bits < 8
  pub zero_bits_left : s₁.bits ≡ replicate (length s₁.bits) false

table-and-tree : {edition : Edition} {n m : ℕ} {s s₁ s₂ : Stream} {table : List Polynomial} {tree : Node NumberedAtom}
    → TableAccepted edition n m s table s₁ → TreeAccepted 6 m 0 s₁ tree s₂
    → s₂.allowed ≡ 0 → length s₂.bits < 8 → all_zero s₂.bits ≡ true → BodyAccepted edition n m s
    (record { variables = n; table = table; tree = tree }) s₂
unfolding write_body
table-and-tree {s₂ = s₂} its-table its-tree no-nodes few zeros = record {
  passed = rw zero-add at (passed-both its-table.passed its-tree.passed);
  variables = refl;
  polynomials = its-table.counted;
  table = its-table.within;
  tree = its-tree.within;
  no_nodes_left = no-nodes;
  few_bits_left = few;
  zero_bits_left = zeros-accepted s₂.bits zeros;
}

-- A body that is accepted is within the limits, and its bits are those that are written.
pub body-accepted : (edition : Edition) (n m : ℕ) (s : Stream) {block : Block} {s₁ : Stream} → read_body edition n m s ≡ read block s₁
    → BodyAccepted edition n m s block s₁
unfolding read_body read_end
body-accepted edition n m s accepted =
    let table = afterwards-read _ _ accepted in
    let tree = afterwards-read _ _ table.then_read in
    let no-nodes = require-read 14 tree.then_read in
    let padding = require-read 15 no-nodes.1 in
    let zeros = (and-eq-true_iff _ _).0 padding.0 in
    let same = same_read padding.1 in
    subst₂ (λ (x : Block) (y : Stream). BodyAccepted edition n m s x y) same.0 same.1
    (table-and-tree (table-accepted edition m n s table.first_read) (tree-accepted 6 m 0 table.between tree.first_read)
    (eqb-true _ _ no-nodes.0) (ltb-true _ _ zeros.0) zeros.1)
