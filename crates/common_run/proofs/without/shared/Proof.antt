-- `shared` meets its contract: a mark is of no round before its own.
use borrow.Author.Rules.{rules}
use native.Mathlib.Omega.{arith}
use Rattle.common_run.proofs.Knowing.{mark-zero, mark-above}
use Rattle.common_run.proofs.without.shared.Statement.{statement}
use Rattle.common_run.proofs.without.shared.Tie as tie

pub shared_spec : {M : Type 1} → statement M
shared_spec =
    tie.close
    (tie.spec (λ c. omega (arith, c.before.requires)) (λ c. (omega (arith, c.before.requires), mark-zero _ c.if-first-eq0.true)) (λ c. omega (arith, c.before.before.requires))
    (λ c. (omega (arith, c.before.before.requires), mark-above _ _ (omega (arith, c.if-rounds-first.true, c.before.before.requires)))) (λ c. search rules)
    (λ c. (omega (arith, c.if-rounds-first.false, c.before.if-first-eq0.false), mark-above _ _ (omega (arith, c.before.if-first-eq0.false)))))
