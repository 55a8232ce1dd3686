-- `read_next_terms` meets its contract; it ends, since fewer terms may come.
use Rattle.std.proofs.Common.{arith}
use Rattle.std.proofs.lemmas.Result.{err_from_is_err_and}
use Rattle.script_polynomial.proofs.Added.{terms-stopped, terms-last, further-on, terms-less, terms-more, terms-counted}
use Rattle.script_polynomial.proofs.sums.+read_next_terms.Goals as goal

pub returns-in_err-step : goal.returns-in_err-step
returns-in_err-step t c = let p = err_from_is_err_and c.from_residual.result c.from_residual.ensures.1 in rw (p.1, p.2) (terms-stopped _ _ _ _ _ _ c.in_err-step.ensures)

pub overflow_sub-most : goal.overflow_sub-most
overflow_sub-most t c = omega (arith, (further-on _ _ _ _ _ _ c.in_ok-step.ensures c.in-More.is).some)

pub read_next_terms-requires : goal.read_next_terms-requires
read_next_terms-requires t c =
    let next = further-on _ _ _ _ _ _ c.in_ok-step.ensures c.in-More.is in
    let kept = c.read_next_term.auto in (
      omega (arith, next.some, c.decreases),
      (
        next.inside,
        c.requires.1,
        c.requires.2,
        record {
          coefficients = omega (arith, next.some, kept.coefficient, c.requires.3.coefficients);
          monomials = omega (arith, next.some, kept.monomial, c.requires.3.monomials);
        },
      ),
    )

pub returns-in_err-rest-in-More : goal.returns-in_err-rest-in-More
returns-in_err-rest-in-More t c =
    let p = err_from_is_err_and c.from_residual-in_err-rest-in-More.result c.from_residual-in_err-rest-in-More.ensures.1 in rw (p.1, p.2) (terms-less _ _ _ _ _ _ c.in_ok-step.ensures c.in-More.is c.in_err-rest-in-More.ensures)

pub overflow_add-result : goal.overflow_add-result
overflow_add-result t c = omega (arith, terms-counted c.in_ok-rest-in-More.ensures, c.read_next_term.auto.coefficient)

pub returns-in-Last : goal.returns-in-Last
returns-in-Last t c = terms-last _ _ _ _ _ _ c.in_ok-step.ensures c.in-Last.is

pub returns-in_ok-rest-in-More : goal.returns-in_ok-rest-in-More
returns-in_ok-rest-in-More t c = terms-more _ _ _ _ _ _ c.in_ok-step.ensures c.in-More.is c.in_ok-rest-in-More.ensures
