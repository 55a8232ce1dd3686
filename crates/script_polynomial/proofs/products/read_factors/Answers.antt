-- `read_factors` meets its contract.
use Rattle.std.proofs.lemmas.Result.{err_from_is_err_and}
use Rattle.script_polynomial.proofs.Factors.{factors-begin, factors-stop, factors-end, factors-less, factors-go-on}
use Rattle.script_polynomial.proofs.products.read_factors.Goals as goal

pub loop-monomial-init : goal.loop-monomial-init
loop-monomial-init c = factors-begin _ _ _ _ c.requires.0 c.requires.1 c.requires.3

pub read_factor-requires : goal.read_factor-requires
read_factor-requires c = let l = c.loop-monomial.invariant in (l.inside, l.variable, c.requires.2, l.packed)

pub returns-in_err-monomial : goal.returns-in_err-monomial
returns-in_err-monomial c = let p = err_from_is_err_and c.from_residual.result c.from_residual.ensures.1 in rw (p.1, p.2) (factors-stop _ _ _ _ c.loop-monomial.invariant c.in_err-monomial.ensures)

pub returns-in-Last : goal.returns-in-Last
returns-in-Last c = factors-end _ _ _ _ c.loop-monomial.invariant c.in_ok-monomial.ensures c.in-Last.is

pub loop-monomial-smaller : goal.loop-monomial-smaller
loop-monomial-smaller c = factors-less _ _ _ _ c.loop-monomial.invariant c.in_ok-monomial.ensures c.in-More.is

pub loop-monomial-preserved : goal.loop-monomial-preserved
loop-monomial-preserved c = factors-go-on _ _ _ _ c.loop-monomial.invariant c.in_ok-monomial.ensures c.in-More.is
