-- `cut_at` meets its contract: the try is made, or the index is outside both ranges.
use borrow.Author.Rules.{rules}
use mathlib.Core.Path.{sym, ◌∙◌}
use Rattle.sign_laws.specs.Booleans.{neither}
use Rattle.interval.specs.Coefficients.{back}
use Rattle.two_atoms.proofs.Spares.{at_tried, at-spared}
use Rattle.two_atoms.proofs.pair.cut_at.Statement.{statement}
use Rattle.two_atoms.proofs.pair.cut_at.Tie as tie

returns : tie.Need-returns-then-either
returns c =
    let s = c.before.before.before.before.before.before.before.before.before in
    rw (back s.ranges.u) at
    (at_tried {below = s.args.below} {above = s.args.above} s.args.i s.requires.1 c.before.before.factor.ensures
    c.before.factor-then-either.ensures c.cut_by_try.ensures)

returns-2 : tie.Need-returns
returns-2 c =
    let s = c.before.before.before.before.before.before in
    let none = (neither c.before.before.before.within.result c.before.before.within-2.result).0
    (sym c.before.either.ensures ∙ c.if-either.false) in
    at-spared s.args.i s.requires.1 (c.before.before.before.within.ensures none.0) (c.before.before.within-2.ensures none.1)

pub cut_at_spec : {M : Type 1} → statement M
cut_at_spec =
    tie.close
    (tie.spec (λ c κs. search rules) (λ c κs. search rules) (λ c κs. search rules) (λ c κs. search rules) (λ c. search rules) (λ c κs. search rules)
    (λ c κs. search rules) returns returns-2)
