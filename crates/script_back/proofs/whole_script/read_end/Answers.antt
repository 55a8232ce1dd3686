-- `read_end` meets its contract.
use Rattle.std.proofs.Common.{refl}
use Rattle.std.proofs.lemmas.Result.{err_from_is_err_and}
use Rattle.script_back.proofs.Texts.{end-stops, end-goes-on, end_reads}
use Rattle.script_back.proofs.whole_script.read_end.Goals as goal

pub returns-in_err-next : goal.returns-in_err-next
returns-in_err-next c = let p = err_from_is_err_and c.from_residual.result c.from_residual.ensures.1 in rw (p.1, p.2) (end-stops c.args.place c.in_err-next.ensures refl)

pub returns-then-next-text : goal.returns-then-next-text
returns-then-next-text c = end-goes-on c.args.place c.in_ok-next.ensures refl c.if-next-text.true

pub returns : goal.returns
returns c = end_reads c.args.place c.in_ok-next.ensures refl c.if-next-text.false
