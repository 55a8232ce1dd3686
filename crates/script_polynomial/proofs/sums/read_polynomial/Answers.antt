-- `read_polynomial` meets its contract.
use Rattle.std.proofs.lemmas.Result.{err_from_is_err_and}
use Rattle.script_polynomial.proofs.Polynomials.{by-sum, by_product, number-stops, by_number}
use Rattle.script_polynomial.proofs.sums.read_polynomial.Goals as goal

pub returns-then-opens : goal.returns-then-opens
returns-then-opens c = by-sum _ _ _ c.opens.ensures c.if-opens.true _ c.read_sum.ensures

pub returns-then-opens-2 : goal.returns-then-opens-2
returns-then-opens-2 c = by_product _ _ _ c.opens.ensures c.opens-2.ensures c.if-opens-2.true _ c.read_alone.ensures

pub returns-in_err-behind : goal.returns-in_err-behind
returns-in_err-behind c =
    let p = err_from_is_err_and c.from_residual.result c.from_residual.ensures.1 in rw (p.1, p.2) (number-stops _ _ _ c.opens.ensures c.opens-2.ensures c.if-opens.false c.if-opens-2.false c.in_err-behind.ensures)

pub returns : goal.returns
returns c = by_number _ _ _ c.opens.ensures c.opens-2.ensures c.if-opens.false c.if-opens-2.false c.in_ok-behind.ensures
