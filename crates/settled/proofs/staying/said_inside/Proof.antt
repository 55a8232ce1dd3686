-- `said_inside` meets its contract: what the others say one at a time is cut by the pairs of them.
use borrow.Author.Rules.{rules}
use mathlib.Core.Path.{◌∙◌, ap}
use Rattle.rules.specs.Signs.{SignSet}
use Rattle.rules.specs.Signs.{inside as inside_of}
use Rattle.table.specs.Table.{Table, form_at}
use Rattle.round.specs.Views.{lent_table, state_of}
use Rattle.settled.proofs.ByPairs.{settled-board, said-by-pairs, said-low}
use Rattle.settled.proofs.OtherAtoms.{others-ready}
use Rattle.settled.proofs.staying.said_inside.Statement.{statement}
use Rattle.settled.proofs.staying.said_inside.Tie as tie

abbrev table : tie.Start → Table
table s = lent_table s.args.coefficient s.args.monomial s.args.terms s.args.variables

said-before-pairs-requires : tie.Need-said_before_pairs-said-requires
said-before-pairs-requires c κs =
    let s = c.before.before.before.before.before.before.before.before in
    let (ready, (same, low)) = s.requires.0 in
    ((others-ready c.other_than-others.ensures ready, (same, low)), s.requires.1.0.0)

lies-inside-requires : tie.Need-lies_inside-requires
lies-inside-requires c κs =
    let s = c.before.before.before.before.before.before.before.before.before in
    let ((own, settled), words) = s.requires.1 in
    (s.requires.0, ((own, settled-board settled), (words, rw c.said_before_pairs-said.ensures (said-low _ _ _))))

returns : tie.Need-returns
returns c =
    let s = c.before.before.before.before.before.before.before.before.before.before in
    let t = table s in
    let others = c.before.before.other_than-others.ensures.atoms t s.requires.0.0.forms in
    c.lies_inside.ensures
    ∙ ap (λ (x : SignSet). inside_of x s.args.set.0)
    (said-by-pairs (state_of t s.args.state) (form_at t s.args.number) others c.before.said_before_pairs-said.ensures)

pub said_inside_spec : {M : Type 1} → statement M
said_inside_spec = tie.close (tie.spec (λ c κs. search rules) said-before-pairs-requires lies-inside-requires returns)
