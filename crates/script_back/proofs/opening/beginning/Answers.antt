-- `beginning` meets its contract.
use Rattle.std.proofs.Common.{refl}
use Rattle.std.proofs.lemmas.Result.{err_from_is_err_and}
use Rattle.script_back.proofs.Opens.{beginning-stops, beginning-found}
use Rattle.script_back.proofs.opening.beginning.Goals as goal

pub returns-in_err-next : goal.returns-in_err-next
returns-in_err-next c = let p = err_from_is_err_and c.from_residual.result c.from_residual.ensures.1 in rw (p.1, p.2) (beginning-stops c.in_err-next.ensures _ refl)

pub returns : goal.returns
returns c = beginning-found c.in_ok-next.ensures _ refl
