-- `read_product` meets its contract.
use mir.Syntax.{w32}
use mir.ValLaws.{to_z-of_z}
use Rattle.std.proofs.Common.{arith}
use Rattle.std.proofs.lemmas.Result.{err_from_is_err_and}
use Rattle.script_polynomial.proofs.Signed.{value_read}
use Rattle.script_polynomial.proofs.Multiplied.{product-stopped, product-read}
use Rattle.script_polynomial.proofs.products.read_product.Goals as goal

pub returns-in_err-number : goal.returns-in_err-number
returns-in_err-number c = let p = err_from_is_err_and c.from_residual.result c.from_residual.ensures.1 in rw (p.1, p.2) (product-stopped _ _ _ _ c.in_err-number.ensures)

pub with_factors-requires : goal.with_factors-requires
with_factors-requires c = ((value_read c.in_ok-number.ensures).inside, c.requires.1, c.requires.2, c.requires.3)

pub returns : goal.returns
returns c = product-read _ _ _ _ c.in_ok-number.ensures (to_z-of_z w32 _ (record { sfits = omega arith })) c.with_factors.ensures
