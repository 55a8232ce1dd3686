-- `read_others` meets its contract.
use Rattle.std.proofs.Common.{arith}
use Rattle.std.proofs.lemmas.Result.{err_from_is_err_and}
use Rattle.script_polynomial.specs.At.{byte_inside}
use Rattle.script_polynomial.proofs.Polynomials.{others-unspaced, others-stopped, others-terms, others-read}
use Rattle.script_polynomial.proofs.sums.read_others.Goals as goal

pub returns-then-byte_at-ne32 : goal.returns-then-byte_at-ne32
returns-then-byte_at-ne32 c = others-unspaced _ _ _ _ c.byte_at.ensures c.if-byte_at-ne32.true

pub read_next_terms-requires : goal.read_next_terms-requires
read_next_terms-requires c =
    let here = byte_inside c.args.text.now c.args.at (omega (arith, c.byte_at.ensures, c.if-byte_at-ne32.false)) in
    (omega (arith, here), c.requires.1, c.requires.2, c.requires.3)

pub returns-in_err-found : goal.returns-in_err-found
returns-in_err-found c = let p = err_from_is_err_and c.from_residual.result c.from_residual.ensures.1 in rw (p.1, p.2) (others-stopped _ _ _ _ c.byte_at.ensures c.if-byte_at-ne32.false c.in_err-found.ensures)

pub overflow_add-found : goal.overflow_add-found
overflow_add-found c =
    let room = (others-terms _ _ _ _ c.byte_at.ensures c.if-byte_at-ne32.false c.in_ok-found.ensures).room in
    omega (arith, room.coefficients)

pub spaced-requires : goal.spaced-requires
spaced-requires c = (others-terms _ _ _ _ c.byte_at.ensures c.if-byte_at-ne32.false c.in_ok-found.ensures).reaches.inside

pub returns : goal.returns
returns c = others-read _ _ _ _ c.byte_at.ensures c.if-byte_at-ne32.false c.in_ok-found.ensures _ c.spaced.ensures
