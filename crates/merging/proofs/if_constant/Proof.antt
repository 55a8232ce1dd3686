use mathlib.Core.Path.{refl}
use borrow.Author.Rules.{rules}
use mir.Syntax.{w32}
use mir.ValLaws.{to_z-of_z}
use Rattle.merging.proofs.Constants.{truth-many, truth-none, truth-one, truth-variable}
use Rattle.merging.proofs.if_constant.Statement.{statement}
use Rattle.merging.proofs.if_constant.Tie as tie

many : tie.Need-returns-then-count-gt1
many c = truth-many c.before.before.before.before.before.requires _ _ c.before.before.slot_of-number.ensures c.if-count-gt1.true

none : tie.Need-returns-then-count-eq0
none c = rw c.truth_of.ensures (truth-none c.before.before.before.before.before.before.before.requires _ _ c.before.before.before.before.slot_of-number.ensures _ c.before.if-count-eq0.true refl)

one : tie.Need-returns-then-exponents-eq0
one c =
    rw (c.truth_of-then-exponents-eq0.ensures, c.before.sign_of.ensures, to_z-of_z w32 _ (record { sfits = c.before.before.c-1.given }))
    (truth-one c.before.before.before.before.before.before.before.before.before.before.before.requires _ _ c.before.before.before.before.before.before.before.before.slot_of-number.ensures c.before.before.before.before.before.before.if-count-gt1.false c.before.before.before.before.before.if-count-eq0.false _ c.before.before.before.if-exponents-eq0.true refl)

variable : tie.Need-returns
variable c = truth-variable c.before.before.before.before.before.before.before.before.requires _ _ c.before.before.before.before.before.slot_of-number.ensures c.before.before.before.if-count-gt1.false c.before.before.if-count-eq0.false c.if-exponents-eq0.false

pub if_constant_spec : {M : Type 1} → statement M
if_constant_spec =
    tie.close
    (tie.spec (λ c κs. search rules) (λ c. search rules) many (λ c κs. search rules) none (λ c. search rules) (λ c. search rules) (λ c. search rules) (λ c. search rules)
    (λ c. search rules) (λ c. search rules) (λ c κs. search rules) (λ c κs. search rules) one variable)
