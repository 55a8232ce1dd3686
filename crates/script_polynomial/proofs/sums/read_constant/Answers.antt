-- `read_constant` meets its contract.
use mir.Syntax.{w32}
use mir.ValLaws.{to_z-of_z}
use Rattle.std.proofs.Common.{arith}
use Rattle.std.proofs.lemmas.Result.{err_from_is_err_and}
use Rattle.script_polynomial.proofs.Added.{constant-stopped, constant-read}
use Rattle.script_polynomial.proofs.sums.read_constant.Goals as goal

pub returns-in_err-found : goal.returns-in_err-found
returns-in_err-found c = let p = err_from_is_err_and c.from_residual.result c.from_residual.ensures.1 in rw (p.1, p.2) (constant-stopped _ _ _ c.in_err-found.ensures)

pub returns : goal.returns
returns c =
    constant-read _ _ _ c.in_ok-found.ensures (to_z-of_z w32 _ (record { sfits = omega arith })) c.requires.2
