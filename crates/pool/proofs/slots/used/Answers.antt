use Rattle.std.proofs.Common.{◌≡◌, ◌∙◌, sym, ap, arith}
use Rattle.pool.proofs.Walks.{used_from, used_step, free_step, used-none}
use Rattle.pool.proofs.slots.used.Goals.{then-not-is_free, else-not-is_free}
use Rattle.pool.proofs.slots.used.Goals as goal

pub loop-slot-preserved : goal.loop-slot-preserved
loop-slot-preserved c =
    let l = c.loop-slot in
    let words = c.args.pool.now in
    elim c.if-not-is_free.branch [
      | then-not-is_free w ↦
          let e = used_step words l.slot c.loop-slot-test.true (sym c.is_free.ensures ∙ w.if-not-is_free.true) in
          let t = w.total-is in
          record { most = omega arith; left = omega (arith, l.invariant.left, e, t) }
      | else-not-is_free w ↦
          let e = free_step words l.slot c.loop-slot-test.true (sym c.is_free.ensures ∙ w.if-not-is_free.false) in
          let t = w.total-is in
          record { most = omega arith; left = omega (arith, l.invariant.left, e, t) }
    ]

pub returns : goal.returns
returns c =
    let e : c.loop-slot.slot ≡ 128 = omega arith in
    (omega (arith, c.loop-slot.invariant.left, ap (used_from c.args.pool.now) e ∙ used-none c.args.pool.now), omega arith)
