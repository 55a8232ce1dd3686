-- `sign_between` meets its contract, by the two tests.
use mir.Syntax.{w64}
use mir.ValLaws.{to_z-of_z}
use Rattle.interval.proofs.Values.{between_none, between-above, between-below}
use Rattle.interval.proofs.interval.sign_between.Statement.{statement}
use Rattle.interval.proofs.interval.sign_between.Tie as tie

returns : tie.Need-returns-then-x-y
returns c =
    let s = c.before.before in
    let x = to_z-of_z w64 _ s.ranges.x in
    let y = to_z-of_z w64 _ s.ranges.y in
    between_none s.args.x s.args.y (rw (x, y) at c.before.if-y-x.true) (rw (x, y) at c.if-x-y.true)

returns-2 : tie.Need-returns-else-x-y
returns-2 c =
    let s = c.before.before in
    let x = to_z-of_z w64 _ s.ranges.x in
    let y = to_z-of_z w64 _ s.ranges.y in
    between-above s.args.x s.args.y (rw (x, y) at c.before.if-y-x.true) (rw (x, y) at c.if-x-y.false)

returns-3 : tie.Need-returns-else-y-x
returns-3 c =
    let s = c.before in
    let x = to_z-of_z w64 _ s.ranges.x in
    let y = to_z-of_z w64 _ s.ranges.y in
    between-below s.args.x s.args.y (rw (x, y) at c.if-y-x.false)

pub sign_between_spec : {M : Type 1} → statement M
sign_between_spec = tie.close (tie.spec returns returns-2 returns-3)
