use Rattle.std.proofs.Common.{ap, ◌∙◌}
use Rattle.std.proofs.lemmas.Result.{err_from_is_err_and}
use Rattle.evaluate.specs.Refusals.{by_number}
use Rattle.evaluate.specs.Entry.{stand-refused, stand-taken, entry-refused, entry-many, few-readings, table-room, some-node, entry-answer}
use Rattle.evaluate.proofs.run.Goals as goal

pub returns-in_err-held : goal.returns-in_err-held
returns-in_err-held c bytes stands =
    let p = err_from_is_err_and c.from_residual.result c.from_residual.ensures.1 in
    rw (p.1, p.2) (entry-refused bytes c.args.readings.now (stand-refused stands c.in_err-held.was))

pub returns-then-readings-held : goal.returns-then-readings-held
returns-then-readings-held c bytes stands = entry-many bytes c.args.readings.now (stand-taken stands c.in_ok-held.was) c.if-readings-held.true

pub node-seen-requires : goal.node-seen-requires
node-seen-requires c =
    let bytes = c.requires.bytes in
    let taken = stand-taken c.requires.stands c.in_ok-held.was in (
      table-room bytes c.args.readings.now taken,
      few-readings bytes c.args.readings.now taken c.if-readings-held.false,
      some-node bytes c.args.readings.now taken,
    )

pub returns : goal.returns
returns c bytes stands =
    ap by_number c.verdict_from.ensures
    ∙ entry-answer bytes c.args.readings.now (stand-taken stands c.in_ok-held.was) c.if-readings-held.false c.node-seen.ensures
