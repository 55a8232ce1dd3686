-- `read_minus` meets its contract.
use Rattle.std.proofs.Common.{[], ◌∷◌, arith}
use Rattle.std.proofs.lemmas.Result.{err_from_is_err_and}
use Rattle.script_polynomial.specs.At.{byte_inside}
use Rattle.script_polynomial.specs.Agreement.{run_inside}
use Rattle.script_polynomial.proofs.Signed.{minus-fits, minus-value, number_read, minus-unsaid, minus-stopped, minus-open, minus-read}
use Rattle.script_polynomial.proofs.numbers.read_minus.Goals as goal

pub returns-then-digits-at-lt3 : goal.returns-then-digits-at-lt3
returns-then-digits-at-lt3 c = minus-unsaid _ _ _ c.agreed-digits.ensures c.if-digits-at-lt3.true

pub read_magnitude-requires : goal.read_magnitude-requires
read_magnitude-requires c = (run_inside _ _ (40 ∷ 45 ∷ 32 ∷ []) c.agreed-digits.ensures c.requires.0, omega arith)

pub returns-in_err-found : goal.returns-in_err-found
returns-in_err-found c = let p = err_from_is_err_and c.from_residual.result c.from_residual.ensures.1 in rw (p.1, p.2) (minus-stopped _ _ _ c.agreed-digits.ensures c.if-digits-at-lt3.false c.in_err-found.ensures)

pub returns-then-byte_at-last : goal.returns-then-byte_at-last
returns-then-byte_at-last c =
    minus-open _ _ _ c.agreed-digits.ensures c.if-digits-at-lt3.false c.in_ok-found.ensures c.byte_at.ensures c.if-byte_at-last.true

pub overflow_cast-result : goal.overflow_cast-result
overflow_cast-result c = let small = (number_read c.in_ok-found.ensures).1.at-most in record { sfits = omega (arith, small) }

pub overflow_sub-result : goal.overflow_sub-result
overflow_sub-result c = minus-fits (number_read c.in_ok-found.ensures).1

pub overflow_add-result : goal.overflow_add-result
overflow_add-result c =
    let here = byte_inside c.args.text.now c.in_ok-found.found.behind (omega (arith, c.byte_at.ensures, c.if-byte_at-last.false, c.requires.1)) in
    omega (arith, here)

pub returns : goal.returns
returns c =
    minus-read _ _ _ c.agreed-digits.ensures c.if-digits-at-lt3.false c.in_ok-found.ensures c.byte_at.ensures c.if-byte_at-last.false
    c.requires.1 (minus-value (number_read c.in_ok-found.ensures).1)
