-- `read_assertion` meets its contract.
use Rattle.std.proofs.Common.{refl}
use Rattle.std.proofs.lemmas.Result.{err_from_is_err_and}
use Rattle.script_back.proofs.Texts.{assertion-stops, root-inside, assertion-ends}
use Rattle.script_back.proofs.whole_script.read_assertion.Goals as goal

pub returns-in_err-root : goal.returns-in_err-root
returns-in_err-root c = let p = err_from_is_err_and c.from_residual.result c.from_residual.ensures.1 in rw (p.1, p.2) (assertion-stops c.in_err-root.ensures refl)

pub read_end-requires : goal.read_end-requires
read_end-requires c = root-inside c.in_ok-root.ensures refl

pub returns : goal.returns
returns c = assertion-ends c.in_ok-root.ensures refl c.read_end.ensures
