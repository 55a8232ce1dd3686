-- What the terms that are left make of the sum is what all make of 0.
use Rattle.std.proofs.Common.{◌≡◌, pos}
use Rattle.std.proofs.Math.Option.{some}
use Rattle.terms.specs.View.{terms_of}
use Rattle.arithmetic.specs.Checked.{sum_from}
use Rattle.arithmetic.specs.Numbers.{meaning}
use Rattle.arithmetic.proofs.value.Given as goal

abbrev pub invariant-loop-i : goal.invariant-loop-i
invariant-loop-i l =
    sum_from l.readings (terms_of l.coefficient l.monomial l.i l.to) (meaning l.total) ≡ sum_from l.readings (terms_of l.coefficient l.monomial l.from l.to) (some (pos 0))
