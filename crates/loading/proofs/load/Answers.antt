-- The block's own refusal, 1 where the area is too short, else every write.
use Rattle.std.proofs.Common.{◌+◌, ◌∙◌, length, sym, ap, arith}
use Rattle.std.proofs.lemmas.Result.{err_from_is_err_and}
use Rattle.loading.specs.Refusals.{by_number}
use Rattle.loading.specs.Writing.{refused-load, short-load, head-found, whole-load}
use Rattle.loading.proofs.load.Goals as goal

pub returns-in_err-size : goal.returns-in_err-size
returns-in_err-size c =
    let p = err_from_is_err_and c.from_residual.result c.from_residual.ensures.1 in
    rw (p.1, p.2) (refused-load c.args.block.now c.args.area.now _ (sym (ap by_number c.in_err-size.was) ∙ c.accepted.ensures))

pub returns-then-area-size : goal.returns-then-area-size
returns-then-area-size c =
    short-load c.args.block.now c.args.area.now _ (sym (ap by_number c.in_ok-size.was) ∙ c.accepted.ensures) (omega (arith, c.if-area-size.true))

pub write_all-requires : goal.write_all-requires
write_all-requires c = head-found c.args.block.now c.args.area.now _ (sym (ap by_number c.in_ok-size.was) ∙ c.accepted.ensures)

pub returns : goal.returns
returns c =
    let whole = whole-load c.args.block.now c.args.area.now _ (sym (ap by_number c.in_ok-size.was) ∙ c.accepted.ensures)
    (omega (arith, c.if-area-size.false)) in
    (whole.0, c.write_all.ensures ∙ whole.1)
