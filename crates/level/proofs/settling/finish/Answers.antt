-- `finish` meets its contract: a false child makes the node false; else what joined is laid after the node's atoms, and they settle.
use Rattle.std.proofs.Common.{◌++◌, arith}
use Rattle.level.proofs.Stages.{laid-down, finish-falls, finish-goes}
use Rattle.level.proofs.settling.finish.Goals as goal

pub returns-then-walked : goal.returns-then-walked
returns-then-walked c l walk h s = finish-falls s l _ c.if-walked.true (c.never-stage.ensures _)

pub returns-else-walked : goal.returns-else-walked
returns-else-walked c l walk h s =
    finish-goes s l _ c.if-walked.false (omega (arith, h.size)) _
    (c.settle-stage.ensures (l ++ s.new) s.children (laid-down _ _ l s.new (c.lay.ensures _ l _ h s.lists (omega (arith, s.lists.size))) s.lists.size) s.lies)
