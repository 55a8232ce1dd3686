-- The stores that are left, done from the array as it is, stay what was asked, and what is left is within the bound.
use Rattle.std.proofs.Common.{◌≡◌, length}
use Rattle.normal.specs.Normal.{Bounded, negated_run}
use Rattle.normal.proofs.negate.Given as goal

abbrev pub invariant-loop-i : goal.invariant-loop-i
invariant-loop-i l =
    record {
      as_long : length l.coefficient ≡ length l.fn.coefficient;
      within : Bounded l.coefficient l.i l.to;
      left : negated_run l.coefficient l.i l.to ≡ negated_run l.fn.coefficient l.from l.to;
    }
