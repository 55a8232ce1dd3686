use Rattle.std.proofs.Common.{◌<◌, ◌∙◌, refl, sym, arith}
use native.Mathlib.Nat.{sub-zero}
use Rattle.round.specs.SignedSlots.{same-slots}
use Rattle.round.specs.Walks.{signing_step, signing_end}
use Rattle.round.proofs.slots.sign_variables.Goals as goal

pub loop-i-init : goal.loop-i-init
loop-i-init c = record { as_long = refl; left = λ board of. rw sub-zero }

pub slot_by-requires : goal.slot_by-requires
slot_by-requires c = (same-slots c.requires.0 c.loop-i.invariant.as_long, omega (arith, c.requires.1))

pub loop-i-preserved : goal.loop-i-preserved
loop-i-preserved c =
    let h : c.loop-i.i < c.args.variables = c.loop-i-test.true in
    record {
      as_long = c.slot_by.auto.sign ∙ c.loop-i.invariant.as_long;
      left = λ board of. rw (c.slot_by.ensures board of) (sym (signing_step _ _ _ _ _ _ _ h) ∙ c.loop-i.invariant.left board of);
    }

pub returns : goal.returns
returns c = λ board of. sym (signing_end _ _ _ _ _ _ _ c.loop-i-test.false) ∙ c.loop-i.invariant.left board of
