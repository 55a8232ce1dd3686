-- `silent` meets its contract: the atoms passed have the full set exactly if they are of the slot.
use Rattle.std.proofs.Common.{◌≡◌, length, rules, arith}
use Rattle.settled.proofs.SilentAtoms.{silent-first, silent-with, silent-without, silent-last}
use Rattle.settled.proofs.others.silent.Goals as goal
use Rattle.settled.proofs.others.silent.Goals.{then-number-k, else-number-k}

pub loop-i-init : goal.loop-i-init
loop-i-init c =
    let places : length c.args.list.set ≡ 64 = search rules in
    silent-first c.args.list c.args.number places

pub loop-i-preserved : goal.loop-i-preserved
loop-i-preserved c =
    elim c.if-number-k.branch [
      | then-number-k w ↦ rw w.quiet-is (silent-with c.loop-i.invariant (omega arith) w.if-number-k.true)
      | else-number-k w ↦ rw w.quiet-is (silent-without c.loop-i.invariant w.if-number-k.false)
    ]

pub returns : goal.returns
returns c = silent-last c.requires c.loop-i.invariant (omega arith)
