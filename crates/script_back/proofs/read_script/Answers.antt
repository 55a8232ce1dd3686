-- `read_script` meets its contract.
use Rattle.std.proofs.Common.{refl}
use Rattle.std.proofs.lemmas.Result.{err_from_is_err_and}
use Rattle.script_back.specs.Back.{reads_none, reads-one}
use Rattle.script_back.proofs.read_script.Goals as goal

pub returns-in_err-script : goal.returns-in_err-script
returns-in_err-script c = let p = err_from_is_err_and c.from_residual.result c.from_residual.ensures.1 in rw (p.1, p.2) (reads_none c.args.text.now c.in_err-script.ensures refl)

pub returns : goal.returns
returns c = reads-one c.args.text.now c.in_ok-script.ensures refl
