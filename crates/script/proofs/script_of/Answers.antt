-- What was read stands in the arrays.
use Rattle.std.proofs.lemmas.Result.{err_from_is_err_and}
use Rattle.script.specs.Entry.{found-refused, found-standing, tells-refused, tells-read}
use Rattle.script.proofs.script_of.Goals as goal

pub returns-in_err-held : goal.returns-in_err-held
returns-in_err-held c =
    let p = err_from_is_err_and c.from_residual.result c.from_residual.ensures.1 in
    rw (p.1, p.2) (tells-refused _ (found-refused c.read_into.ensures c.in_err-held.was))

pub told-requires : goal.told-requires
told-requires c =
    let standing = found-standing c.read_into.ensures c.in_ok-held.was in
    record { block = standing.block; stands = standing.stands }

pub returns : goal.returns
returns c =
    let standing = found-standing c.read_into.ensures c.in_ok-held.was in
    tells-read _ standing.accepted (c.told.ensures standing.block standing.stands)
