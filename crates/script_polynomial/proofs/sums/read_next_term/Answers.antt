-- `read_next_term` meets its contract.
use Rattle.std.proofs.Common.{arith}
use Rattle.std.proofs.lemmas.Result.{err_from_is_err_and}
use Rattle.script_polynomial.proofs.Added.{constant-stops, constant-last, above-one, step-stopped, term-there, step-read}
use Rattle.script_polynomial.proofs.sums.read_next_term.Goals as goal

pub returns-in_err-behind : goal.returns-in_err-behind
returns-in_err-behind c =
    let p = err_from_is_err_and c.from_residual.result c.from_residual.ensures.1 in rw (p.1, p.2) (constant-stops _ _ _ _ _ c.product_next.ensures c.if-not-product_next.true c.in_err-behind.ensures)

pub returns-then-not-product_next : goal.returns-then-not-product_next
returns-then-not-product_next c = constant-last _ _ _ _ _ c.product_next.ensures c.if-not-product_next.true c.in_ok-behind.ensures

pub overflow_sub-above : goal.overflow_sub-above
overflow_sub-above c = omega (arith, above-one c.args.text.now c.args.at _ c.product_next.ensures c.if-not-product_next.false)

pub read_term-requires : goal.read_term-requires
read_term-requires c = (
  c.requires.0,
  c.requires.1,
  c.requires.2,
  omega (arith, above-one c.args.text.now c.args.at _ c.product_next.ensures c.if-not-product_next.false),
  c.requires.3,
)

pub returns-in_err-found : goal.returns-in_err-found
returns-in_err-found c =
    let p = err_from_is_err_and c.from_residual-in_err-found.result c.from_residual-in_err-found.ensures.1 in rw (p.1, p.2) (step-stopped _ _ _ _ _ c.product_next.ensures c.if-not-product_next.false c.in_err-found.ensures)

pub after_term-requires : goal.after_term-requires
after_term-requires c = (term-there _ _ _ 0 _ c.product_next.ensures c.if-not-product_next.false c.in_ok-found.ensures).reaches.inside

pub returns : goal.returns
returns c =
    step-read _ _ _ _ _ c.product_next.ensures c.if-not-product_next.false c.in_ok-found.ensures c.requires.3 _ (c.after_term.ensures _)
