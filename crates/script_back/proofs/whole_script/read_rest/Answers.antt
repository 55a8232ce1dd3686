-- `read_rest` meets its contract.
use Rattle.std.proofs.Common.{refl}
use Rattle.std.proofs.lemmas.Result.{err_from_is_err_and}
use Rattle.script_back.proofs.Texts.{rest-stops, declared-all, rest-reads}
use Rattle.script_back.proofs.whole_script.read_rest.Goals as goal

pub returns-in_err-declared : goal.returns-in_err-declared
returns-in_err-declared c = let p = err_from_is_err_and c.from_residual.result c.from_residual.ensures.1 in rw (p.1, p.2) (rest-stops c.in_err-declared.ensures refl)

pub read_assertion-requires : goal.read_assertion-requires
read_assertion-requires c =
    let all = declared-all c.in_ok-declared.ensures refl in
    (record { some = all.some; most = all.most; lent = c.requires.0 }, all.inside)

pub returns : goal.returns
returns c = rest-reads c.in_ok-declared.ensures refl c.read_assertion.ensures
