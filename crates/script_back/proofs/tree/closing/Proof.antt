-- `closing` meets its contract, set by set.
use native.Mathlib.Omega.{arith}
use borrow.Author.Rules.{rules}
use Rattle.script_text.proofs.Texts.{closing-other, closing-one}
use Rattle.script_back.proofs.Positions.{said-as}
use Rattle.script_back.proofs.tree.closing.Statement.{statement}
use Rattle.script_back.proofs.tree.closing.Tie as tie

pub closing_spec : {M : Type 1} → statement M
closing_spec =
    tie.close
    (tie.spec (λ c κs. search rules)
    (λ c. said-as (closing-other _ c.if-set-eq5.true) c.said.ensures) (λ c κs. search rules)
    (λ c. said-as (closing-one _ (λ e. omega (arith, c.requires.1, e)) c.if-set-eq5.false) c.said-2.ensures))
