-- `close_atom` meets its contract.
use Rattle.std.proofs.Common.{refl}
use Rattle.std.proofs.lemmas.Result.{err_from_is_err_and}
use Rattle.script_back.proofs.Walk.{close-stops, close-reads}
use Rattle.script_back.proofs.tree.close_atom.Goals as goal

pub returns-in_err-next : goal.returns-in_err-next
returns-in_err-next c = let p = err_from_is_err_and c.from_residual.result c.from_residual.ensures.1 in rw (p.1, p.2) (close-stops c.in_err-next.ensures refl)

pub returns : goal.returns
returns c = close-reads c.in_ok-next.ensures refl
