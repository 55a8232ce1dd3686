-- `left` meets its contract: an atom on which no cut rests may go.
use borrow.Author.Rules.{rules}
use native.Mathlib.Omega.{arith}
use Rattle.common_run.proofs.Knowing.{left-staying, left-unmarked, left-unknown}
use Rattle.common_run.proofs.without.left.Statement.{statement}
use Rattle.common_run.proofs.without.left.Tie as tie

pub left_spec : {M : Type 1} → statement M
left_spec =
    tie.close
    (tie.spec (λ c. left-staying _ _ (c.if-not-out.true)) (λ c. search rules) (λ c κs. search rules) (λ c. left-unknown _ _ c.unknown.ensures)
    (λ c. left-unmarked _ _ c.requires (c.if-not-out.false) (omega (arith, c.if-mark-gt0.false))))
