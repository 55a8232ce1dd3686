-- `cut_by_others` meets its contract: the empty set stays empty, of any other all pairs are asked, the polynomial's own atoms silent.
use borrow.Author.Rules.{rules}
use mathlib.Core.Path.{sym, ◌∙◌, ap}
use native.Mathlib.Omega.{arith}
use Rattle.rules.specs.TwoAtoms.{cut_by_all}
use Rattle.terms.specs.View.{sets_of}
use Rattle.table.specs.Table.{Table, form_at}
use Rattle.round.specs.Views.{lent_table}
use Rattle.round.specs.Over.{ready-over}
use Rattle.search.specs.Silent.{tries-quieted, silenced-ready, silenced-words}
use Rattle.settled.proofs.ByPairs.{all-empty, pairs-over}
use Rattle.settled.proofs.others.cut_by_others.Statement.{statement}
use Rattle.settled.proofs.others.cut_by_others.Tie as tie

abbrev table : tie.Start → Table
table s = lent_table s.args.coefficient s.args.monomial s.args.terms s.args.variables

returns : tie.Need-returns-then-set-eq0
returns c = rw c.if-set-eq0.true (sym (all-empty _))

cut-by-pairs-requires : tie.Need-cut_by_pairs-requires
cut-by-pairs-requires c κs =
    let s = c.before.before.before.before.before.before.before.before in
    let (ready, (same, low)) = s.requires.0 in
    let ((own, filled), words) = s.requires.1 in
    let quiet = c.silent.ensures.silenced in
    ((ready-over _ _ _ (sym same) (silenced-ready quiet ready), filled), ((omega arith, own), silenced-words quiet words))

returns-2 : tie.Need-returns
returns-2 c =
    let s = c.before.before.before.before.before.before.before.before.before in
    let t = table s in
    let (ready, (same, low)) = s.requires.0 in
    let quiet = c.before.silent in
    pairs-over _ _ _ same (sets_of s.args.board) s.args.number quiet.result s.args.set.0 c.cut_by_pairs.ensures
    ∙ ap (cut_by_all s.args.set.0)
    (tries-quieted (quiet.ensures.quieted t ready.forms) (sets_of s.args.board) (form_at t s.args.number))

pub cut_by_others_spec : {M : Type 1} → statement M
cut_by_others_spec = tie.close (tie.spec returns (λ c κs. search rules) cut-by-pairs-requires returns-2)
