use Rattle.std.proofs.Common.{arith}
use Rattle.std.proofs.lemmas.Result.{err_from_is_err_and}
use Rattle.block.proofs.Steps.{inside-after}
use Rattle.block.proofs.ReadingWhole.{contents-refused, table-refuses, allowed-behind, tree-refuses, all-stored, none-held, held-are}
use Rattle.block.proofs.read_body.Goals as goal

pub returns-in_err-after : goal.returns-in_err-after
returns-in_err-after c =
    let p = err_from_is_err_and c.from_residual.result c.from_residual.ensures.1 in
    rw (p.1, p.2) (contents-refused _ _ _ _ _ _ _ _ (table-refuses c.requires.0 c.read_table.ensures c.in_err-after.was), none-held _ _)

pub read_tree-requires : goal.read_tree-requires
read_tree-requires c = (
  inside-after c.read_table.ensures c.in_ok-after.was,
  omega (arith, allowed-behind c.requires.0 c.read_table.ensures c.in_ok-after.was),
  c.requires.1.tokens,
)

pub returns-in_err-root : goal.returns-in_err-root
returns-in_err-root c =
    let p = err_from_is_err_and c.from_residual-in_err-root.result c.from_residual-in_err-root.ensures.1 in
    rw (p.1, p.2) (
      contents-refused _ _ _ _ _ _ _ _ (tree-refuses c.requires.0 c.read_table.ensures c.in_ok-after.was c.read_tree.ensures c.in_err-root.was),
      none-held _ _,
    )

pub returns : goal.returns
returns c = (all-stored c.requires.0 c.read_table.ensures c.in_ok-after.was c.read_tree.ensures c.in_ok-root.was, held-are _)
