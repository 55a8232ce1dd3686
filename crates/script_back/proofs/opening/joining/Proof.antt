-- `joining` meets its contract.
use borrow.Author.Rules.{rules}
use Rattle.script_back.proofs.Opens.{joining-stops, joining-goes-on}
use Rattle.script_back.proofs.opening.joining.Statement.{statement}
use Rattle.script_back.proofs.opening.joining.Tie as tie

pub joining_spec : {M : Type 1} → statement M
joining_spec =
    tie.close
    (tie.spec (λ c κs. search rules)
    (λ c. joining-goes-on _ c.if-allowed.true c.beginning.ensures)
    (λ c. search rules)
    (λ c. joining-stops _ _ _ _ c.if-allowed.false))
