-- `sole_marked` meets its contract: a slot is marked if its atoms alone take the sign out.
use borrow.Author.Rules.{rules}
use native.Mathlib.Omega.{arith}
use Rattle.common_run.proofs.Sole.{sole_none, sole-several, sole-one}
use Rattle.common_run.proofs.takers.sole_marked.Statement.{statement}
use Rattle.common_run.proofs.takers.sole_marked.Tie as tie

returns : tie.Need-returns-then-by-eq0
returns c = sole_none _ _ _ c.if-by-eq0.true

returns-2 : tie.Need-returns-then-by-gt64
returns-2 c = sole-several _ _ _ c.if-by-gt64.true

marked-requires : tie.Need-marked-requires
marked-requires c κs = (omega (arith, c.if-by-gt64.false), c.before.before.requires)

returns-3 : tie.Need-returns
returns-3 c = sole-one _ _ _ c.before.before.if-by-eq0.false c.marked.ensures

pub sole_marked_spec : {M : Type 1} → statement M
sole_marked_spec = tie.close (tie.spec returns returns-2 (λ c. search rules) marked-requires returns-3)
