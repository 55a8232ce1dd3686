-- What the reader refuses changes nothing, and what it accepts is finished.
use Rattle.std.proofs.Common.{arith}
use Rattle.std.proofs.lemmas.Result.{err_from_is_err_and}
use Rattle.convert.specs.Converted.{converts-refused, converts-finished, found-refused, found-accepted}
use Rattle.convert.proofs.converted_to.Goals as goal

pub returns-in_err-contents : goal.returns-in_err-contents
returns-in_err-contents c =
    let p = err_from_is_err_and c.from_residual.result c.from_residual.ensures.1 in
    rw (p.1, p.2) (converts-refused _ (found-refused c.read_into.ensures c.in_err-contents.was))

pub finish-requires : goal.finish-requires
finish-requires c =
    let kept = c.read_into.auto in
    let given = found-accepted c.read_into.ensures c.args.edition c.requires c.in_ok-contents.was in (
      record {
        coefficients = omega (arith, kept.coefficient);
        monomials = omega (arith, kept.monomial);
        counts = omega (arith, kept.terms);
        tokens = omega (arith, kept.token);
      },
      record { block = given.block; writable = given.writable },
    )

pub returns : goal.returns
returns c =
    let given = found-accepted c.read_into.ensures c.args.edition c.requires c.in_ok-contents.was in
    converts-finished _ given.reading (c.finish.ensures given.block given.writable)
