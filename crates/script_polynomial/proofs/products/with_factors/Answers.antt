-- `with_factors` meets its contract.
use mir.Syntax.{w32}
use mir.ValLaws.{to_z-of_z}
use Rattle.std.proofs.lemmas.Result.{err_from_is_err_and}
use Rattle.script_polynomial.proofs.Multiplied.{with-stopped, with_read}
use Rattle.script_polynomial.proofs.products.with_factors.Goals as goal

pub returns-in_err-found : goal.returns-in_err-found
returns-in_err-found c = let p = err_from_is_err_and c.from_residual.result c.from_residual.ensures.1 in rw (p.1, p.2) (with-stopped _ _ _ _ _ c.in_err-found.ensures)

pub returns : goal.returns
returns c = with_read _ _ _ _ _ c.in_ok-found.ensures (to_z-of_z w32 _ c.ranges.coefficient)
