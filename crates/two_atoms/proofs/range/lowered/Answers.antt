use mir.Syntax.{w64}
use mir.ValLaws.{to_z-of_z}
use Rattle.std.proofs.Common.{◌≡◌, ◌+◌, ◌-◌, arith}
use Rattle.interval.specs.Coefficients.{back}
use Rattle.two_atoms.proofs.range.lowered.Goals as goal

pub returns-then-passes : goal.returns-then-passes
returns-then-passes c =
    let same : c.loop-i.i - 1 + 1 ≡ c.loop-i.i = omega arith in
    let here = rw (to_z-of_z w64 c.args.x c.ranges.x, back c.ranges.b) at c.loop-i.invariant in
    rw same here
