-- `any_try` meets its contract: both tests.
use borrow.Author.Rules.{rules}
use Rattle.sieve.proofs.Bars.{pair-passed, pair-passes}
use Rattle.sieve.proofs.tries.any_try.Statement.{statement}
use Rattle.sieve.proofs.tries.any_try.Tie as tie

returns-2 : tie.Need-returns
returns-2 c = pair-passed c.before.before.some_test.ensures c.before.if-some_test.false c.some_test-2.ensures

pub any_try_spec : {M : Type 1} → statement M
any_try_spec = tie.close (tie.spec (λ c κs. search rules) (λ c. pair-passes) (λ c κs. search rules) returns-2)
