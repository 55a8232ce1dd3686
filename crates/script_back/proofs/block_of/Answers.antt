-- Where the text stops nothing is written; the block that was read is finished, or refused by the converter.
use Rattle.std.proofs.Common.{refl, arith}
use Rattle.std.proofs.lemmas.Result.{err_from_is_err_and}
use Rattle.script_back.specs.Back.{text-read, gives_none, gives-block}
use Rattle.script_back.proofs.block_of.Goals as goal

pub returns-in_err-script : goal.returns-in_err-script
returns-in_err-script c =
    let p = err_from_is_err_and c.from_residual.result c.from_residual.ensures.1 in
    rw (p.1, p.2) (gives_none c.args.text.now c.in_err-script.ensures refl)

pub put_block-requires : goal.put_block-requires
put_block-requires c =
    let kept = c.read_into.auto in
    let given = text-read c.args.text.now c.in_ok-script.ensures refl in (
      record {
        coefficients = omega (arith, kept.coefficient);
        monomials = omega (arith, kept.monomial);
        counts = omega (arith, kept.terms);
        tokens = omega (arith, kept.token);
      },
      record { block = given.block; writable = given.writes },
    )

pub returns-in_err-size : goal.returns-in_err-size
returns-in_err-size c =
    let p = err_from_is_err_and c.from_residual-in_err-size.result c.from_residual-in_err-size.ensures.1 in
    let text = c.args.text.now in
    let given = text-read text c.in_ok-script.ensures refl in
    rw (p.1, p.2) (gives-block text c.in_ok-script.ensures refl (c.in_err-size.ensures given.block given.writes))

pub returns : goal.returns
returns c =
    let text = c.args.text.now in
    let given = text-read text c.in_ok-script.ensures refl in
    gives-block text c.in_ok-script.ensures refl (c.in_ok-size.ensures given.block given.writes)
