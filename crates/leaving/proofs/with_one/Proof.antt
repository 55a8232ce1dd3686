-- `with_one` meets its contract: one token more, or none.
use borrow.Author.Rules.{rules}
use native.Mathlib.Omega.{arith}
use Rattle.leaving.proofs.Leaving.{one-more, no_more}
use Rattle.leaving.proofs.with_one.Statement.{statement}
use Rattle.leaving.proofs.with_one.Tie as tie

returns : tie.Need-returns-then-at-list
returns c k l hk hl = one-more k l _ hl (omega (arith, hl.size, c.before.before.if-at-list.true)) (c.push.ensures.1 k hk)

returns-2 : tie.Need-returns
returns-2 c k l hk hl = no_more k l c.if-at-list.false hl.size hk

pub with_one_spec : {M : Type 1} → statement M
with_one_spec = tie.close (tie.spec (λ c. search rules) (λ c. search rules) (λ c κs. search rules) returns returns-2)
