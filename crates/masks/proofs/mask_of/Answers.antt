use mir.Syntax.{w32}
use mir.ValLaws.{to_z-of_z}
use Rattle.std.proofs.Common.{refl, arith}
use Rattle.masks.proofs.Walks.{walk, walked_all}
use Rattle.masks.proofs.mask_of.Goals as goal

pub loop-i-init : goal.loop-i-init
loop-i-init c = record { on = omega arith; negatives = λ signed. refl; positives = λ signed. refl }

pub loop-i-preserved : goal.loop-i-preserved
loop-i-preserved c = walk c.loop-i.invariant c.loop-i-test.true
    (rw (to_z-of_z w32 _ (record { sfits = c.c-1.given })) at c.mask_of_term.ensures) c.joined-sofar.ensures

pub returns : goal.returns
returns c = walked_all c.loop-i.invariant c.loop-i-test.false
