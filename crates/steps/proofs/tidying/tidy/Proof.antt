-- `tidy` meets its contract: the atoms are merged, and of those that are left no full one stays.
use borrow.Author.Rules.{rules}
use native.Mathlib.Omega.{arith}
use Rattle.steps.proofs.Merging.{tidy-broken, tidy-goes}
use Rattle.steps.proofs.tidying.tidy.Statement.{statement}
use Rattle.steps.proofs.tidying.tidy.Tie as tie

broken : tie.Need-returns-then-merged
broken c l h = let merged = c.before.before.before.merge-merged.ensures in tidy-broken h merged.0 (merged.1 l h) c.if-merged.true

without-full-requires : tie.Need-without_full-requires
without-full-requires c κs = omega (arith, c.before.before.before.before.merge-merged.ensures.0, c.before.before.before.before.before.before.before.before.before.requires.1)

goes : tie.Need-returns
goes c l h =
    let merged = c.before.before.before.before.before.before.before.merge-merged.ensures in
    let m = merged.1 l h in
    tidy-goes h merged.0 m c.before.before.before.before.if-merged.false (c.before.before.without_full.ensures _ m.list m.lists)

pub tidy_spec : {M : Type 1} → statement M
tidy_spec = tie.close (tie.spec (λ c κs. search rules) (λ c. search rules) broken without-full-requires (λ c. search rules) goes)
