-- `evaluate::behind` meets its contract.
use borrow.Author.Rules.{rules}
use Rattle.evaluate.specs.Tree.{behind_of}
use Rattle.evaluate.specs.Walk.{behind-is}
use Rattle.evaluate.proofs.behind.Statement.{statement}
use Rattle.evaluate.proofs.behind.Tie as tie

returns : tie.Need-returns-then-count-eq0
unfolding behind_of
returns c = rw c.if-count-eq0.true

returns-2 : tie.Need-returns-else-count-eq0
returns-2 c = behind-is _ _ c.if-count-eq0.false

pub behind_spec : {M : Type 1} → statement M
behind_spec = tie.close (tie.spec (λ c. search rules) returns returns-2)
