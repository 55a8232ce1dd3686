-- `cut_by_masked_pair` meets its contract: the tries of the pair, or none of them cuts.
use borrow.Author.Rules.{rules}
use mathlib.Core.Path.{refl}
use Rattle.masks.proofs.cutting.cut_by_masked_pair.Statement.{statement}
use Rattle.masks.proofs.cutting.cut_by_masked_pair.Tie as tie

pub cut_by_masked_pair_spec : {M : Type 1} → statement M
cut_by_masked_pair_spec =
    tie.close
    (tie.spec (λ c κs. search rules) (λ c κs. search rules) (λ c. search rules)
    (λ c. c.before.may_cut.ensures.leaves c.if-may_cut.false c.before.before.before.before.requires.1 refl refl _))
