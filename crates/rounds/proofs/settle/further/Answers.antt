-- What a pair finds, if the round changed nothing, and else what it left.
use Rattle.std.proofs.Common.{◌∙◌, refl, sym}
use Rattle.round.specs.Views.{lent_table}
use Rattle.rounds.proofs.Ends.{further-searched, further-changed}
use Rattle.rounds.proofs.settle.further.Goals as goal

pub returns-then-unchanged : goal.returns-then-unchanged
returns-then-unchanged c =
    let t = lent_table c.args.coefficient c.args.monomial c.args.terms c.args.after.board.variables in
    further-searched {t = t} c.args.before c.args.after (sym (c.unchanged.ensures t) ∙ c.if-unchanged.true) c.search.ensures

pub returns-else-unchanged : goal.returns-else-unchanged
returns-else-unchanged c =
    let t = lent_table c.args.coefficient c.args.monomial c.args.terms c.args.after.board.variables in
    further-changed {t = t} c.args.before c.args.after refl (sym (c.unchanged.ensures t) ∙ c.if-unchanged.false)
