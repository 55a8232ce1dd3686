-- `read_declarations` meets its contract.
use Rattle.std.proofs.Common.{refl, sym, ◌∙◌, arith}
use Rattle.std.proofs.lemmas.Result.{err_from_is_err_and}
use Rattle.script_back.proofs.Forks.{one-more, declaration-stops, declaration-reads, said-inside}
use Rattle.script_back.proofs.declarations.+read_declarations.Goals as goal

pub asserted-requires : goal.asserted-requires
asserted-requires t c = (c.requires.0, c.requires.1, sym c.all_declared.ensures ∙ c.if-all_declared.true)

pub declared_one-requires : goal.declared_one-requires
declared_one-requires t c =
    (c.requires.0, (one-more c.args.text.now c.args.at c.args.i c.requires.1 (sym c.all_declared.ensures ∙ c.if-all_declared.false)).below)

pub returns-in_err-next : goal.returns-in_err-next
returns-in_err-next t c =
    let more = one-more c.args.text.now c.args.at c.args.i c.requires.1 (sym c.all_declared.ensures ∙ c.if-all_declared.false) in
    let p = err_from_is_err_and c.from_residual.result c.from_residual.ensures.1 in rw (p.1, p.2) (declaration-stops c.in_err-next.ensures more refl)

pub read_declarations-requires : goal.read_declarations-requires
read_declarations-requires t c =
    let more = one-more c.args.text.now c.args.at c.args.i c.requires.1 (sym c.all_declared.ensures ∙ c.if-all_declared.false) in
    (omega (arith, c.decreases, more.below), (said-inside c.in_ok-next.ensures refl, omega (arith, more.below)))

pub returns : goal.returns
returns t c =
    let more = one-more c.args.text.now c.args.at c.args.i c.requires.1 (sym c.all_declared.ensures ∙ c.if-all_declared.false) in
    declaration-reads c.in_ok-next.ensures more refl c.read_declarations.ensures
