-- Each turn asks what the turns before it have left, and leaves the same of one turn more.
use Rattle.std.proofs.Common.{refl, arith}
use Rattle.round.proofs.Narrowing.{narrowing, asked, narrowed, narrowed-all}
use Rattle.round.proofs.lent.turns.Goals as goal

pub loop-i-init : goal.loop-i-init
loop-i-init c = record { all = refl; narrowing = narrowing _ _ _ _ _ _ c.requires.0 }

pub turn-requires : goal.turn-requires
turn-requires c = asked _ _ _ _ _ _ c.loop-i.invariant.narrowing c.args.floor c.requires.1 (omega arith)

pub loop-i-preserved : goal.loop-i-preserved
loop-i-preserved c = record {
  all = c.loop-i.invariant.all;
  narrowing = narrowed _ _ _ _ _ _ c.loop-i.invariant.narrowing _ _ (omega arith) c.turn.auto.sign c.turn.ensures;
}

pub returns : goal.returns
returns c = narrowed-all _ _ _ _ _ _ c.loop-i.invariant.narrowing (omega arith)
