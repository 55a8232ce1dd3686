-- What the readings that are left make of the product is what all make of the coefficient.
use Rattle.std.proofs.Common.{◌≡◌, drop}
use Rattle.arithmetic.specs.Checked.{term_from}
use Rattle.arithmetic.specs.Numbers.{meaning}
use Rattle.arithmetic.proofs.term.Given as goal

abbrev pub invariant-loop-i : goal.invariant-loop-i
invariant-loop-i l = term_from (drop l.i l.readings) l.monomial (meaning l.product) ≡ term_from l.readings l.monomial (meaning l.initial.product)
