use Rattle.std.proofs.Common.{◌<◌, ◌∙◌, refl, sym, arith}
use Rattle.round.specs.SignedSlots.{same-slots}
use Rattle.round.specs.Walks.{signing_step, signing_end}
use Rattle.round.proofs.slots.sign_table.Goals as goal

pub loop-k-init : goal.loop-k-init
loop-k-init c = record { as_long = refl; left = λ board of. refl }

pub slot_by-requires : goal.slot_by-requires
slot_by-requires c = (same-slots c.requires c.loop-k.invariant.as_long, omega arith)

pub loop-k-preserved : goal.loop-k-preserved
loop-k-preserved c =
    let h : c.loop-k.k < 80 = c.loop-k-test.true in
    record {
      as_long = c.slot_by.auto.sign ∙ c.loop-k.invariant.as_long;
      left = λ board of. rw (c.slot_by.ensures board of) (sym (signing_step _ _ _ _ _ _ _ h) ∙ c.loop-k.invariant.left board of);
    }

pub returns : goal.returns
returns c = sym (signing_end _ _ _ _ _ _ _ c.loop-k-test.false) ∙ c.loop-k.invariant.left _ c.masks_of-masks.ensures
