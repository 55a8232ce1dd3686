use Rattle.std.proofs.Common.{◌≡◌, ◌<◌, ◌∙◌, length, take, refl, sym, arith, rules}
use Rattle.std.proofs.lemmas.List.{get_or-take, length-take-le}
use native.Mathlib.Nat.{sub-zero}
use Rattle.round.specs.SignedSlots.{same-slots}
use Rattle.round.specs.Walks.{signing_step, signing_end}
use Rattle.round.proofs.slots.sign_atoms.Goals as goal
use Rattle.round.proofs.slots.sign_atoms.Goals.{After-many-n}

-- so many numbers are walked over
walked : (c : After-many-n) → length (take c.many-n.result c.args.atoms.number) ≡ c.many-n.result
walked c =
    let sixty-four : length c.args.atoms.number ≡ 64 = search rules in
    length-take-le c.many-n.result c.args.atoms.number (omega (arith, sixty-four, c.many-n.ensures))

pub loop-number-init : goal.loop-number-init
loop-number-init c = record { all = c.many-n.ensures; as_long = refl; left = λ board of. rw (c.many-n.ensures, sub-zero) }

pub slot_by-requires : goal.slot_by-requires
slot_by-requires c = (same-slots c.requires c.loop-number.invariant.as_long, omega arith)

pub loop-number-preserved : goal.loop-number-preserved
loop-number-preserved c =
    let l = c.loop-number in
    let h : l.number-index < c.many-n.result = omega (arith, c.loop-number-test.true, walked (goal.at.loop-number-preserved c).After-many-n) in
    let its = get_or-take c.many-n.result c.args.atoms.number l.number-index 0 h in
    record {
      all = l.invariant.all;
      as_long = c.slot_by.auto.sign ∙ l.invariant.as_long;
      left = λ board of. rw (c.slot_by.ensures board of, its) (sym (signing_step _ _ _ _ _ _ _ h) ∙ l.invariant.left board of);
    }

pub returns : goal.returns
returns c = λ board of.
    let walked-all = walked (goal.at.returns c).After-many-n in
    sym (signing_end _ _ _ _ _ _ _ (omega (arith, c.loop-number-test.false, walked-all))) ∙ c.loop-number.invariant.left board of
