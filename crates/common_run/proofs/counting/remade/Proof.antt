-- `remade` meets its contract: the run that is known, or one from the start of the atoms that remain.
use borrow.Author.Rules.{rules}
use mathlib.Core.Path.{sym, ◌∙◌, ap}
use Rattle.rules.specs.Rounds.{start as start_of}
use Rattle.table.specs.Table.{Table}
use Rattle.round.specs.Views.{lent_table}
use Rattle.round.specs.Over.{forms-over}
use Rattle.common_run.proofs.Above.{above-start, floored-start, above-over}
use Rattle.common_run.proofs.Turnings.{floored-over}
use Rattle.common_run.proofs.Counts.{made-now}
use Rattle.common_run.proofs.counting.remade.Statement.{statement}
use Rattle.common_run.proofs.counting.remade.Tie as tie

abbrev table : tie.Start → Table
table s = lent_table s.args.coefficient s.args.monomial s.args.terms s.args.variables

marking-run-requires : tie.Need-marking_run-requires
marking-run-requires c κs =
    let s = c.before.before.before.before.before.before in
    let begun = c.before.start-begun in
    let own = sym begun.ensures.0 in
    let started = begun.ensures.1 ∙ ap (start_of s.args.variables) (c.before.before.joined-all.ensures (table s)) in
    let above = above-start s.requires.1.0.afresh begun.result started in
    let floored = floored-start s.requires.1.0.afresh begun.result started in
    (forms-over _ _ _ own s.requires.0, (above-over _ _ _ own above, floored-over _ _ _ own floored))

returns-2 : tie.Need-returns
returns-2 c =
    let s = c.before.before.before.before.before.before.before in
    let begun = c.before.before.start-begun in
    made-now _ _ _ begun.ensures.0 (c.before.before.before.joined-all.ensures (table s)) s.requires.1.0.afresh begun.result begun.ensures.1 c.marking_run.result c.marking_run.ensures

pub remade_spec : {M : Type 1} → statement M
remade_spec =
    tie.close
    (tie.spec (λ c. search rules) (λ c κs. search rules) (λ c κs. search rules) marking-run-requires returns-2)
