-- `asserted` meets its contract.
use Rattle.std.proofs.Common.{refl}
use Rattle.std.proofs.lemmas.Result.{err_from_is_err_and}
use Rattle.script_back.proofs.Forks.{no_more, assert-stops, assert-reads}
use Rattle.script_back.proofs.declarations.asserted.Goals as goal

pub returns-in_err-next : goal.returns-in_err-next
returns-in_err-next c =
    let p = err_from_is_err_and c.from_residual.result c.from_residual.ensures.1 in rw (p.1, p.2) (assert-stops c.in_err-next.ensures (no_more c.args.text.now c.args.at c.args.i c.requires.1 c.requires.2) refl)

pub returns : goal.returns
returns c = assert-reads c.in_ok-next.ensures (no_more c.args.text.now c.args.at c.args.i c.requires.1 c.requires.2) c.requires.1 refl
