use Rattle.std.proofs.Common.{refl, sym, ◌∙◌, arith}
use Rattle.round.specs.Over.{forms-over}
use Rattle.ahead.proofs.Passing.{reached-over, reached-more}
use Rattle.ahead.proofs.Hints.{reached-itself}
use Rattle.ahead.proofs.replay.Goals as goal

pub loop-k-init : goal.loop-k-init
loop-k-init c = record { places = refl; few = omega (arith, c.many-end.ensures); reached = reached-itself _ _ _ refl }

pub hint-at-requires : goal.hint-at-requires
hint-at-requires c =
    let l = c.loop-k in (forms-over _ _ _ (sym l.invariant.reached.variables) c.requires.0, l.invariant.places ∙ c.requires.1)

pub loop-k-preserved : goal.loop-k-preserved
loop-k-preserved c =
    let reached = c.loop-k.invariant.reached in
    let r = c.hint-at in
    record {
      places = r.auto.sign ∙ c.loop-k.invariant.places;
      few = c.loop-k.invariant.few;
      reached = reached-more _ _ _ _ _ reached (reached-over _ _ _ reached.variables _ _ _ r.ensures);
    }
