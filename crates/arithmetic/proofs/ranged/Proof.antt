-- `arithmetic::ranged` meets its contract.
use mathlib.Core.Path.{refl}
use native.Mathlib.Omega.{arith}
use borrow.Author.Rules.{rules}
use Rattle.arithmetic.specs.Checked.{kept_if}
use Rattle.arithmetic.specs.Numbers.{meaning}
use Rattle.arithmetic.proofs.ranged.Statement.{statement}
use Rattle.arithmetic.proofs.ranged.Tie as tie

returns : tie.Need-returns-then-limit-magnitude
unfolding meaning kept_if
returns c = record { within = λ h. absurd (omega (arith, c.before.limit.ensures, c.if-limit-magnitude.true)); past = λ h. refl }

returns-2 : tie.Need-returns
unfolding meaning
returns-2 c = record { within = λ h. refl; past = λ h. absurd (omega (arith, c.before.limit.ensures, c.if-limit-magnitude.false)) }

pub ranged_spec : {M : Type 1} → statement M
ranged_spec = tie.close (tie.spec (λ c κs. search rules) returns returns-2)
