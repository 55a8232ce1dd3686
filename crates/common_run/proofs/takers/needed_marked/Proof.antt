-- `needed_marked` meets its contract.
use borrow.Author.Rules.{rules}
use Rattle.common_run.proofs.Sole.{three-marked}
use Rattle.common_run.proofs.takers.needed_marked.Statement.{statement}
use Rattle.common_run.proofs.takers.needed_marked.Tie as tie

returns : tie.Need-returns
returns c = three-marked _ c.before.before.sole_marked-one.ensures c.before.sole_marked-two.ensures c.sole_marked.ensures

pub needed_marked_spec : {M : Type 1} → statement M
needed_marked_spec = tie.close (tie.spec (λ c κs. search rules) (λ c κs. search rules) (λ c κs. search rules) returns)
