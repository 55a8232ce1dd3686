use Rattle.std.proofs.lemmas.Result.{err_from_is_err_and}
use Rattle.block.proofs.ReadingTable.{table-end, table-stop, table-go-on}
use Rattle.block.proofs.read_table.Goals as goal

pub returns-in_err-next : goal.returns-in_err-next
returns-in_err-next c =
    let p = err_from_is_err_and c.from_residual.result c.from_residual.ensures.1 in
    rw (p.1, p.2) (table-stop _ _ _ c.loop-i.invariant c.loop-i-test.true c.read_polynomial.ensures c.in_err-next.was)

pub loop-i-preserved : goal.loop-i-preserved
loop-i-preserved c = table-go-on _ _ _ c.loop-i.invariant c.loop-i-test.true c.read_polynomial.ensures c.in_ok-next.was

pub returns : goal.returns
returns c = table-end _ _ _ c.loop-i.invariant c.loop-i-test.false c.loop-i.auto.i-end
