-- `first_place` meets its contract: no token that was passed is of the slot.
use Rattle.std.proofs.Common.{ℕ, refl, sym, ap, ◌∙◌}
use Rattle.tape.specs.Token.{place}
use Rattle.reasons.specs.Telling.{first_place}
use Rattle.reasons.proofs.Tokens.{first_here, first_later, first-none}
use Rattle.reasons.proofs.first_place.Goals as goal

pub loop-other-init : goal.loop-other-init
loop-other-init c = λ l h. refl

pub returns-then-number-slot_of : goal.returns-then-number-slot_of
returns-then-number-slot_of c =
    λ l h. c.place_of.ensures ∙ sym (first_here h c.loop-other-test.true _ (c.if-number-slot_of.true ∙ c.slot_of.ensures)) ∙ c.loop-other.invariant l h
    ∙ ap (λ (number : ℕ). first_place number l (place c.args.token)) c.slot_of-number.ensures

pub loop-other-preserved : goal.loop-other-preserved
loop-other-preserved c =
    λ l h. sym (first_later h c.loop-other-test.true _ (λ e. c.if-number-slot_of.false (e ∙ sym c.slot_of.ensures))) ∙ c.loop-other.invariant l h

pub returns : goal.returns
returns c =
    λ l h. c.place_of-2.ensures ∙ sym (first-none h c.loop-other-test.false c.slot_of-number.result _) ∙ c.loop-other.invariant l h
    ∙ ap (λ (number : ℕ). first_place number l (place c.args.token)) c.slot_of-number.ensures
