-- `cut_by_pair` meets its contract: the tries are made, or the sets allow none.
use borrow.Author.Rules.{rules}
use mathlib.Core.Path.{sym, ap₂, ◌∙◌}
use mathlib.Core.Bool.{◌&&◌}
use Rattle.two_atoms.proofs.Factors.{no-tries}
use Rattle.two_atoms.proofs.pair.cut_by_pair.Statement.{statement}
use Rattle.two_atoms.proofs.pair.cut_by_pair.Tie as tie

returns-2 : tie.Need-returns
returns-2 c =
    let s = c.before.before.before.before.before.before in
    no-tries s.args.all
    (ap₂ ◌&&◌ (sym c.before.before.before.one_sided.ensures) (sym c.before.before.one_sided-2.ensures) ∙ sym c.before.both.ensures
    ∙ c.if-both.false)

pub cut_by_pair_spec : {M : Type 1} → statement M
cut_by_pair_spec =
    tie.close
    (tie.spec (λ c κs. search rules) (λ c κs. search rules) (λ c κs. search rules) (λ c κs. search rules) (λ c. c.cut_by_u.ensures) returns-2)
