-- `turns_marking` meets its contract: the turns that are left go on from the board at hand.
use Rattle.std.proofs.Common.{refl, sym, ◌∙◌, arith}
use Rattle.round.specs.Over.{ready-over}
use Rattle.common_run.proofs.Turnings.{turnings-first, turnings-next, turnings-last, turn-over, floored-later, floored-over}
use Rattle.common_run.proofs.turning.turns_marking.Goals as goal

pub loop-i-init : goal.loop-i-init
loop-i-init c = record { as_long = refl; turns = turnings-first _ _ _ refl c.requires.0 }

pub turn_marking-passed-requires : goal.turn_marking-passed-requires
turn_marking-passed-requires c =
    let turnings = c.loop-i.invariant.turns in (
      ready-over _ _ _ (sym turnings.variables) turnings.ready,
      (
        omega (arith, c.loop-i-test.true, turnings.variables),
        (c.requires.1.0, floored-over _ _ _ (sym turnings.variables) (floored-later c.requires.1.1 turnings.after)),
      ),
    )

pub loop-i-preserved : goal.loop-i-preserved
loop-i-preserved c =
    let r = c.turn_marking-passed in
    let turnings = c.loop-i.invariant.turns in
    record { as_long = r.auto.sign ∙ c.loop-i.invariant.as_long; turns = turnings-next turnings c.loop-i-test.true (turn-over _ _ _ turnings.variables r.ensures) }

pub returns : goal.returns
returns c = turnings-last c.loop-i.invariant.turns c.loop-i-test.false
