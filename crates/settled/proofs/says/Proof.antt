-- `says` meets its contract: the signs of all slots are more than what it takes, and the pairs of the others are asked where they matter.
use borrow.Author.Rules.{rules}
use mathlib.Core.Path.{sym, ◌∙◌}
use native.Mathlib.Omega.{arith}
use Rattle.table.specs.Table.{Table, form_at}
use Rattle.round.specs.Views.{lent_table, state_of}
use Rattle.round.specs.SignedSlots.{table-ready}
use Rattle.settled.proofs.ByPairs.{settled-board, says-by-pairs}
use Rattle.settled.proofs.says.Statement.{statement}
use Rattle.settled.proofs.says.Tie as tie

abbrev table : tie.Start → Table
table s = lent_table s.args.coefficient s.args.monomial s.args.terms s.args.variables

says-before-pairs-requires : tie.Need-says_before_pairs-said-requires
says-before-pairs-requires c κs =
    let s = c.before.before.before.before.before.before.before in
    let (forms, (same, low)) = s.requires.0 in
    let ((places, (signed, settled)), words) = s.requires.1 in
    ((table-ready s.args.state.atoms forms places signed, (same, low)), signed s.args.number (omega arith))

cut-by-others-requires : tie.Need-cut_by_others-requires
cut-by-others-requires c κs =
    let s = c.before.before.before.before.before.before.before.before.before.before.before in
    let (forms, (same, low)) = s.requires.0 in
    let ((places, (signed, settled)), words) = s.requires.1 in
    let ready = table-ready s.args.state.atoms forms places signed in
    ((ready, (same, low)), ((signed s.args.number (omega arith), settled-board settled), words))

returns : tie.Need-returns-then-pairs_matter
returns c =
    let s = c.before.before.before.before.before.before.before.before.before.before.before.before in
    let t = table s in
    let said = c.before.before.before.before.says_before_pairs-said.ensures in
    c.cut_by_others.ensures
    ∙ says-by-pairs s.args.variables (state_of t s.args.state) (form_at t s.args.number) said

returns-2 : tie.Need-returns
returns-2 c =
    let s = c.before.before.before.before.before.before.before.before.before.before.before in
    c.before.before.before.says_before_pairs-said.ensures ∙ sym (c.before.pairs_matter.ensures.idle c.if-pairs_matter.false s.requires.1.0.1.1)

pub says_spec : {M : Type 1} → statement M
says_spec =
    tie.close (tie.spec says-before-pairs-requires (λ c κs. search rules) (λ c κs. search rules) cut-by-others-requires returns returns-2)
