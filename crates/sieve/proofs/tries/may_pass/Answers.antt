use mir.Syntax.{w32}
use mir.ValLaws.{to_z-of_z}
use Rattle.std.proofs.Common.{arith}
use Rattle.sieve.proofs.Bars.{try-ended, passes}
use Rattle.sieve.proofs.tries.may_pass.Goals as goal

pub returns-then-row_bars : goal.returns-then-row_bars
returns-then-row_bars c =
    try-ended _ (c.wrapped-at.ensures.low (omega arith)) c.ranges.u c.ranges.w
    (rw (
      to_z-of_z w32 _ (record { sfits = c.x-1.given }),
      to_z-of_z w32 _ (record { sfits = c.y-1.given }),
      to_z-of_z w32 _ (record { sfits = c.z-1.given }),
    ) at c.row_bars.ensures) c.if-row_bars.true

pub returns : goal.returns
returns c = passes
