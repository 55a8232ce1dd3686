-- `read_sum` meets its contract.
use Rattle.std.proofs.Common.{[], ◌∷◌, arith}
use Rattle.std.proofs.lemmas.Result.{err_from_is_err_and}
use Rattle.script_polynomial.specs.Agreement.{run_inside}
use Rattle.script_polynomial.proofs.Polynomials.{alone-term, sum-unsaid, sum-stopped, sum-read}
use Rattle.script_polynomial.proofs.sums.read_sum.Goals as goal

pub returns-then-start-at-lt3 : goal.returns-then-start-at-lt3
returns-then-start-at-lt3 c = sum-unsaid _ _ _ c.agreed-start.ensures c.if-start-at-lt3.true

pub read_term-requires : goal.read_term-requires
read_term-requires c = (
  run_inside _ _ (40 ∷ 43 ∷ 32 ∷ []) c.agreed-start.ensures c.requires.0,
  c.requires.1,
  c.requires.2,
  c.highest.ensures.1,
  record { coefficients = omega (arith, c.requires.3.coefficients); monomials = omega (arith, c.requires.3.monomials) },
)

pub returns-in_err-found : goal.returns-in_err-found
returns-in_err-found c =
    let p = err_from_is_err_and c.from_residual.result c.from_residual.ensures.1 in rw (p.1, p.2) (sum-stopped _ _ _ c.agreed-start.ensures c.if-start-at-lt3.false c.highest.ensures.0 c.in_err-found.ensures)

pub read_others-requires : goal.read_others-requires
read_others-requires c =
    let kept = c.read_term.auto in (
      (alone-term _ _ _ c.highest.ensures.0 c.in_ok-found.ensures).reaches.inside,
      c.requires.1,
      c.requires.2,
      record { coefficients = omega (arith, kept.coefficient, c.requires.3.coefficients); monomials = omega (arith, kept.monomial, c.requires.3.monomials) },
    )

pub returns : goal.returns
returns c =
    sum-read _ _ _ c.agreed-start.ensures c.if-start-at-lt3.false c.highest.ensures.0 c.in_ok-found.ensures _ c.read_others.ensures
