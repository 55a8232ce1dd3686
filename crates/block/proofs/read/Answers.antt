use Rattle.std.proofs.lemmas.Result.{err_from_is_err_and}
use Rattle.block.proofs.ReadingWhole.{outcome-refused, outcome-held}
use Rattle.block.proofs.read.Goals as goal

pub returns-in_err-contents : goal.returns-in_err-contents
returns-in_err-contents c =
    let p = err_from_is_err_and c.from_residual.result c.from_residual.ensures.1 in
    rw (p.1, p.2) (outcome-refused c.read_into.ensures c.in_err-contents.was)

pub returns : goal.returns
returns c = outcome-held c.read_into.ensures c.in_ok-contents.was
