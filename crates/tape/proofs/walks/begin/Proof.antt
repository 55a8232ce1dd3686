use native.Mathlib.Omega.{arith}
use borrow.Author.Rules.{rules}
use Rattle.tape.specs.Entering.{begins}
use Rattle.tape.proofs.walks.begin.Statement.{statement}
use Rattle.tape.proofs.walks.begin.Tie as tie

returns : tie.Need-returns
returns c = (
  omega (arith, c.before.empty-new.ensures.0, c.empty-ors.ensures.0),
  (omega (arith, c.before.empty-new.ensures.0, c.empty-ors.ensures.0), λ t. begins t _ _ c.before.empty-new.ensures.1 c.empty-ors.ensures.1),
)

pub begin_spec : {M : Type 1} → statement M
begin_spec = tie.close (tie.spec (λ c κs. search rules) (λ c κs. search rules) returns)
