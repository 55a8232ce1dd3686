-- `put_if` meets its contract, by the test.
use borrow.Author.Rules.{rules}
use Rattle.columns.specs.Columns.{put-not}
use Rattle.columns.proofs.put_if.Statement.{statement}
use Rattle.columns.proofs.put_if.Tie as tie

pub put_if_spec : {M : Type 1} → statement M
put_if_spec = tie.close (tie.spec (λ c κs. search rules) (λ c. search rules) (λ c. search rules) (λ c. put-not _ _ _ c.if-there.false))
