-- The stores that are left, done from the array as it is, stay what was asked.
use Rattle.std.proofs.Common.{◌≡◌, length}
use Rattle.normal.specs.Normal.{divided_run}
use Rattle.normal.proofs.divide.Given as goal

abbrev pub invariant-loop-i : goal.invariant-loop-i
invariant-loop-i l =
    record { as_long : length l.target ≡ length l.fn.target; left : divided_run l.by l.coefficient l.target l.i l.to ≡ divided_run l.by l.coefficient l.fn.target l.from l.to }
