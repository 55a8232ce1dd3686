-- What the reader refuses, or what the answer to an accepted block is told as.
use Rattle.std.proofs.lemmas.Result.{err_from_is_err_and}
use Rattle.rules.specs.Scripts.{script_answer}
use Rattle.script.specs.Entry.{found-refused, found-read, simplified-refused, tells-refused}
use Rattle.script.proofs.script.Goals as goal

pub returns-in_err-read_into : goal.returns-in_err-read_into
unfolding script_answer
returns-in_err-read_into c =
    let p = err_from_is_err_and c.from_residual.result c.from_residual.ensures.1 in
    rw (p.1, p.2) (tells-refused _ (simplified-refused _ (found-refused c.read_into.ensures c.in_err-read_into.was)))

pub answered-requires : goal.answered-requires
answered-requires c = found-read c.read_into.ensures c.in_ok-read_into.was

pub returns : goal.returns
unfolding script_answer
returns c = c.answered.ensures
