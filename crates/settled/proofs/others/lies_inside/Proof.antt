-- `lies_inside` meets its contract: what the pairs leave lies inside the bound exactly if they leave nothing of what is outside it.
use borrow.Author.Rules.{rules}
use mathlib.Core.Path.{◌∙◌, ap}
use lib.Dec.{eqb}
use Rattle.rules.specs.Signs.{SignSet}
use Rattle.settled.proofs.ByPairs.{inside-by-outside}
use Rattle.settled.proofs.others.lies_inside.Statement.{statement}
use Rattle.settled.proofs.others.lies_inside.Tie as tie

cut-by-others-requires : tie.Need-cut_by_others-left-requires
cut-by-others-requires c κs =
    let s = c.before.before.before.before.before.before.before in
    (s.requires.0, (s.requires.1.0, s.requires.1.1.0))

returns : tie.Need-returns
returns c =
    let cut = c.before.before in
    let s = cut.before.before.before.before.before.before.before.before in
    let left = rw (cut.before.intersect-outside.ensures, cut.before.before.complement.ensures) at cut.cut_by_others-left.ensures in
    ap (λ (x : SignSet). eqb x 0) left ∙ inside-by-outside s.args.set.0 s.args.bound.0 _ s.requires.1.1.1

pub lies_inside_spec : {M : Type 1} → statement M
lies_inside_spec = tie.close (tie.spec (λ c κs. search rules) (λ c κs. search rules) cut-by-others-requires returns)
