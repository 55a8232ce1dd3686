-- `other_than` meets its contract: of the atoms passed, those of other slots are stored one behind the other.
use Rattle.std.proofs.Common.{◌≡◌, length, rules, arith}
use Rattle.settled.proofs.OtherAtoms.{others-first, others-with, others-without, others-last}
use Rattle.settled.proofs.others.other_than.Goals as goal
use Rattle.settled.proofs.others.other_than.Goals.{then-number-k, else-number-k}

pub loop-i-init : goal.loop-i-init
loop-i-init c =
    let numbers : length c.args.list.number ≡ 64 = search rules in
    let sets : length c.args.list.set ≡ 64 = search rules in
    others-first c.args.list c.args.number numbers sets

pub loop-i-preserved : goal.loop-i-preserved
loop-i-preserved c =
    elim c.if-number-k.branch [
      | then-number-k w ↦ rw (w.others-is, w.next-is) (others-with c.requires c.loop-i.invariant (omega arith) (omega arith) w.if-number-k.true)
      | else-number-k w ↦ rw (w.others-is, w.next-is) (others-without c.requires c.loop-i.invariant (omega arith) w.if-number-k.false)
    ]

pub returns : goal.returns
returns c = others-last c.loop-i.invariant (omega arith) (omega arith)
