-- `read_into` meets its contract.
use Rattle.std.proofs.Common.{refl}
use Rattle.std.proofs.lemmas.Result.{err_from_is_err_and}
use Rattle.script_back.proofs.Forks.{said-inside}
use Rattle.script_back.proofs.Texts.{script-stops, script-reads}
use Rattle.script_back.proofs.whole_script.read_into.Goals as goal

pub returns-in_err-next : goal.returns-in_err-next
returns-in_err-next c = let p = err_from_is_err_and c.from_residual.result c.from_residual.ensures.1 in rw (p.1, p.2) (script-stops c.in_err-next.ensures refl)

pub read_rest-requires : goal.read_rest-requires
read_rest-requires c = (c.requires, said-inside c.in_ok-next.ensures refl)

pub returns : goal.returns
returns c = script-reads c.in_ok-next.ensures refl c.read_rest.ensures
