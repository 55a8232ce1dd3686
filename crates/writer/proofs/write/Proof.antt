-- `writer::write` meets its contract.
use mathlib.Core.Path.{refl, ◌∙◌}
use native.Mathlib.Omega.{arith}
use borrow.Author.Rules.{rules}
use Rattle.rules.specs.Formula.{alone}
use Rattle.writer.proofs.WritingWhole.{few-variables, few-polynomials, terms-inside, room-table, tree-ahead, one-child, length_is, end-small, room-padding, five-bytes, block_written}
use Rattle.writer.proofs.write.Statement.{statement}
use Rattle.writer.proofs.write.Tie as tie

write-table-requires : tie.Need-write_table-tree-requires
write-table-requires c κs =
    let start = c in
    let room = start.requires.0 in
    let w = start.requires.1.writable in (
      few-variables _ _ _ _ w,
      omega arith,
      few-polynomials _ _ _ _ w,
      omega (arith, few-polynomials _ _ _ _ w, room.counts),
      terms-inside _ _ _ _ w room.coefficients room.monomials,
      room-table _ _ _ _ w,
    )

write-parts-requires : tie.Need-write_parts-last-requires
write-parts-requires c κs =
    let table = c in
    let start = table in
    tree-ahead _ _ _ _ start.requires.1.writable table.write_table-tree.ensures table.write_table-tree.auto.out

add-size : tie.Need-overflow_add-size
add-size c =
    let tree = c in
    let table = tree in
    let start = table in
    let w = start.requires.1.writable in
    omega (arith, end-small _ _ _ _ w table.write_table-tree.ensures (tree.write_parts-last.ensures (alone start.requires.1.block.tree) w.holds.tree (one-child start.requires.1.block.tree)))

mul-write-field : tie.Need-overflow_mul-size
mul-write-field c =
    let tree = c in
    let table = tree in
    let start = table in
    let w = start.requires.1.writable in
    omega (arith, end-small _ _ _ _ w table.write_table-tree.ensures (tree.write_parts-last.ensures (alone start.requires.1.block.tree) w.holds.tree (one-child start.requires.1.block.tree)))

write-field-requires : tie.Need-write_field-requires
write-field-requires c κs =
    let tree = c in
    let table = tree in
    let start = table in
    let w = start.requires.1.writable in (
      omega arith,
      room-padding _ _ _ _ w table.write_table-tree.ensures (tree.write_parts-last.ensures (alone start.requires.1.block.tree) w.holds.tree (one-child start.requires.1.block.tree))
          (tree.write_parts-last.auto.out ∙ table.write_table-tree.auto.out),
    )

write-head-requires : tie.Need-write_head-requires
write-head-requires c κs =
    let padding = c in
    let tree = padding in
    let table = tree in
    let start = table in
    let w = start.requires.1.writable in
    omega (
      arith,
      five-bytes _ _ _ _ w table.write_table-tree.ensures (tree.write_parts-last.ensures (alone start.requires.1.block.tree) w.holds.tree (one-child start.requires.1.block.tree)),
      padding.write_field.auto.out,
      tree.write_parts-last.auto.out,
      table.write_table-tree.auto.out,
    )

returns : tie.Need-returns
returns c block w =
    let head = c in
    let padding = head in
    let tree = padding in
    let table = tree in
    let known = table in
    let parts = tree.write_parts-last.ensures (alone block.tree) w.holds.tree (one-child block.tree) in (
      length_is _ _ _ _ w table.write_table-tree.ensures parts,
      block_written _ _ _ _ w table.write_table-tree.ensures parts padding.write_field.ensures head.write_head.ensures (λ i. (known.slice_known-1.given i).fits)
          (λ i. (c.slice_known-5-1.given i).fits)
          (head.write_head.auto.out ∙ padding.write_field.auto.out ∙ tree.write_parts-last.auto.out ∙ table.write_table-tree.auto.out) refl,
    )

pub write_spec : {M : Type 1} → statement M
write_spec =
    tie.close
    (tie.spec write-table-requires write-parts-requires add-size mul-write-field (λ c. search rules) write-field-requires write-head-requires (λ c. search rules) returns)
