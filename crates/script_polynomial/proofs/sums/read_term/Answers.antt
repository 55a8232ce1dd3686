-- `read_term` meets its contract.
use mir.Syntax.{w32}
use mir.ValLaws.{to_z-of_z}
use Rattle.std.proofs.Common.{[], ◌∷◌, arith}
use Rattle.std.proofs.lemmas.Result.{err_from_is_err_and}
use Rattle.script_polynomial.specs.Agreement.{run_inside}
use Rattle.script_polynomial.proofs.Multiplied.{term-unsaid, term-stopped, term-read}
use Rattle.script_polynomial.proofs.sums.read_term.Goals as goal

pub returns-then-start-at-lt3 : goal.returns-then-start-at-lt3
returns-then-start-at-lt3 c = term-unsaid _ _ _ _ c.agreed-start.ensures c.if-start-at-lt3.true

pub read_product-requires : goal.read_product-requires
read_product-requires c =
    (run_inside _ _ (40 ∷ 42 ∷ 32 ∷ []) c.agreed-start.ensures c.requires.0, c.requires.1, c.requires.2, c.requires.3)

pub returns-in_err-found : goal.returns-in_err-found
returns-in_err-found c = let p = err_from_is_err_and c.from_residual.result c.from_residual.ensures.1 in rw (p.1, p.2) (term-stopped _ _ _ _ c.agreed-start.ensures c.if-start-at-lt3.false c.in_err-found.ensures)

pub returns : goal.returns
returns c =
    term-read _ _ _ _ c.agreed-start.ensures c.if-start-at-lt3.false c.in_ok-found.ensures
    (to_z-of_z w32 _ (record { sfits = omega arith }))
