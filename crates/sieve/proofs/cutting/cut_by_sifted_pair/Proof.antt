-- `cut_by_sifted_pair` meets its contract: the tries of the pair, or none of them cuts.
use borrow.Author.Rules.{rules}
use mathlib.Core.Path.{refl}
use Rattle.sieve.proofs.cutting.cut_by_sifted_pair.Statement.{statement}
use Rattle.sieve.proofs.cutting.cut_by_sifted_pair.Tie as tie

any-left-requires : tie.Need-any_left-requires
any-left-requires c κs = let s = c.before.before.before.before in (s.requires.0.0, s.requires.1)

cut-by-pair-requires : tie.Need-cut_by_pair-requires
cut-by-pair-requires c κs = c.before.before.before.before.before.before.requires.0.0

pub cut_by_sifted_pair_spec : {M : Type 1} → statement M
cut_by_sifted_pair_spec =
    tie.close
    (tie.spec (λ c κs. search rules) any-left-requires cut-by-pair-requires (λ c. c.cut_by_pair.ensures)
    (λ c. c.before.any_left.ensures.leaves c.if-any_left.false _)
    (λ c. c.before.may_cut.ensures.leaves c.if-may_cut.false c.before.before.before.before.requires.0.1 refl refl _))
