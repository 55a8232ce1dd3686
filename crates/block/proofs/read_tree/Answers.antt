use Rattle.std.proofs.Common.{arith}
use Rattle.std.proofs.lemmas.Result.{err_from_is_err_and}
use lib.ListN.{drop}
use Rattle.rules.specs.Bits.{unpack}
use Rattle.bits.proofs.Fields.{value-take-lt}
use Rattle.block.proofs.Steps.{inside-after}
use Rattle.block.proofs.ReadingEnd.{tree-refused, root-inside, end_refused, tree-read}
use Rattle.block.proofs.read_tree.Goals as goal

pub returns-in_err-after : goal.returns-in_err-after
returns-in_err-after c =
    let p = err_from_is_err_and c.from_residual.result c.from_residual.ensures.1 in
    rw (p.1, p.2) (tree-refused _ c.read_node.ensures c.in_err-after.was)

pub read_end-requires : goal.read_end-requires
read_end-requires c = inside-after c.read_node.ensures c.in_ok-after.was

pub returns-in_err-read_end : goal.returns-in_err-read_end
returns-in_err-read_end c =
    let p = err_from_is_err_and c.from_residual-in_err-read_end.result c.from_residual-in_err-read_end.ensures.1 in
    rw (p.1, p.2) (end_refused _ c.read_node.ensures c.in_ok-after.was c.read_end.ensures c.in_err-read_end.was)

pub get-requires : goal.get-requires
get-requires c = omega (arith, root-inside _ c.read_node.ensures c.in_ok-after.was)

pub overflow_cast-result : goal.overflow_cast-result
overflow_cast-result c = omega (arith, value-take-lt 2 (drop c.args.place.at (unpack c.args.src.now)), c.get.ensures)

pub returns : goal.returns
returns c = tree-read _ c.read_node.ensures c.in_ok-after.was c.read_end.ensures c.in_ok-read_end.was c.get.ensures
