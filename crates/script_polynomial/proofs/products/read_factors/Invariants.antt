-- What is left is read as all would be; the product grows, up to the limit.
use Rattle.std.proofs.Common.{◌-◌}
use Rattle.script_polynomial.proofs.Factors.{SoFar}
use Rattle.script_polynomial.proofs.products.read_factors.Given as goal

abbrev pub invariant-loop-monomial : goal.invariant-loop-monomial
invariant-loop-monomial l = SoFar l.fn.text l.fn.at l.fn.n l.fn.limit l.next l.after l.product

abbrev pub decreases-loop-monomial : goal.decreases-loop-monomial
decreases-loop-monomial l = l.fn.limit - l.product
