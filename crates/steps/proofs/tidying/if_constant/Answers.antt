use mir.Syntax.{w32}
use mir.ValLaws.{to_z-of_z}
use Rattle.steps.proofs.Constants.{truth-many, truth-none, truth-one, truth-variable}
use Rattle.steps.proofs.tidying.if_constant.Goals as goal

pub returns-then-count-gt1 : goal.returns-then-count-gt1
returns-then-count-gt1 c = truth-many c.requires _ _ c.slot_of-number.ensures c.if-count-gt1.true

pub returns-then-count-eq0 : goal.returns-then-count-eq0
returns-then-count-eq0 c = truth-none c.requires _ _ c.slot_of-number.ensures _ c.if-count-eq0.true (rw c.set_of.ensures at c.inside.ensures)

pub returns-then-exponents-eq0 : goal.returns-then-exponents-eq0
returns-then-exponents-eq0 c =
    truth-one c.requires _ _ c.slot_of-number.ensures c.if-count-gt1.false c.if-count-eq0.false _ c.if-exponents-eq0.true
    (rw (c.sign_of.ensures, c.set_of-then-exponents-eq0.ensures, to_z-of_z w32 _ (record { sfits = c.c-1.given })) at c.inside-then-exponents-eq0.ensures)

pub returns : goal.returns
returns c = truth-variable c.requires _ _ c.slot_of-number.ensures c.if-count-gt1.false c.if-count-eq0.false c.if-exponents-eq0.false
