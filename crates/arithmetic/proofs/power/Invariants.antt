-- What the factors that are left make of the product is what all make of the number.
use Rattle.std.proofs.Common.{◌≡◌, ◌-◌}
use Rattle.arithmetic.specs.Checked.{raised}
use Rattle.arithmetic.specs.Numbers.{value_of, meaning}
use Rattle.arithmetic.proofs.power.Given as goal

abbrev pub invariant-loop : goal.invariant-loop
invariant-loop l = raised (value_of l.negative l.magnitude) (l.exponent - l.counter) (meaning l.product) ≡ raised (value_of l.negative l.magnitude) l.exponent (meaning l.fn.v)
