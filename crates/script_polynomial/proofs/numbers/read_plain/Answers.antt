-- `read_plain` meets its contract.
use Rattle.std.proofs.Common.{arith}
use Rattle.std.proofs.lemmas.Result.{err_from_is_err_and}
use Rattle.script_polynomial.proofs.Signed.{plain_value, number_read, plain-stopped, plain-read}
use Rattle.script_polynomial.proofs.numbers.read_plain.Goals as goal

pub returns-in_err-found : goal.returns-in_err-found
returns-in_err-found c = let p = err_from_is_err_and c.from_residual.result c.from_residual.ensures.1 in rw (p.1, p.2) (plain-stopped _ c.in_err-found.ensures)

pub overflow_cast-result : goal.overflow_cast-result
overflow_cast-result c = let small = (number_read c.in_ok-found.ensures).1.at-most in record { sfits = omega (arith, small) }

pub returns : goal.returns
returns c = let h = c.in_ok-found.ensures in plain-read _ h (plain_value (number_read h).1)
