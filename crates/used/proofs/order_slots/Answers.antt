-- `used::order_slots` meets its contract: each token takes the order so far one step further.
use Rattle.std.proofs.Common.{◌<◌, arith, take}
use Rattle.std.proofs.lemmas.List.{take_all}
use Rattle.used.proofs.Slots.{tape-front, tape-size}
use Rattle.used.proofs.Ordering.{ordering-starts, ordering-join, ordering-known, ordering-new, used-below, array_size, ordered}
use Rattle.used.proofs.order_slots.Goals as goal
use Rattle.used.proofs.order_slots.Goals.{then-next-lt-JOIN+then-number-slot-eq64, then-next-lt-JOIN+else-number-slot-eq64, else-next-lt-JOIN}

pub loop-next-init : goal.loop-next-init
loop-next-init c = ordering-starts (take c.args.count c.args.token.now) c.args.count c.args.order.now c.args.number.now c.requires.2

pub bounds-order-used : goal.bounds-order-used
bounds-order-used c =
    let tape = tape-front c.requires.0 in
    let room = used-below tape (omega (arith, c.loop-next-test.true, tape-size c.requires.0)) c.loop-next.invariant c.if-next-lt-JOIN.true c.if-number-slot-eq64.true in
    omega (arith, room, array_size c.loop-next.invariant, c.requires.1)

pub loop-next-preserved : goal.loop-next-preserved
loop-next-preserved c =
    let tape = tape-front c.requires.0 in
    let h : c.loop-next.next-index < c.args.count = omega (arith, c.loop-next-test.true, tape-size c.requires.0) in
    elim c.if-next-lt-JOIN.branch [
      | then-next-lt-JOIN+then-number-slot-eq64 w ↦
          rw (w.order-is, w.number-is, w.used-is) (ordering-new tape h c.loop-next.invariant w.if-next-lt-JOIN.true w.if-number-slot-eq64.true)
      | then-next-lt-JOIN+else-number-slot-eq64 w ↦
          rw (w.order-is, w.number-is, w.used-is) (ordering-known tape h c.loop-next.invariant w.if-next-lt-JOIN.true w.if-number-slot-eq64.false)
      | else-next-lt-JOIN w ↦ rw (w.order-is, w.number-is, w.used-is) (ordering-join tape h c.loop-next.invariant w.if-next-lt-JOIN.false)
    ]

pub returns : goal.returns
returns c =
    let whole = take_all c.args.count (take c.args.count c.args.token.now) (omega (arith, tape-size c.requires.0)) in
    rw whole at (ordered c.loop-next.invariant (omega (arith, c.loop-next-test.false, tape-size c.requires.0)))
