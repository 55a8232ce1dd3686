-- `merge_into` meets its contract: the atoms looked through are of other polynomials; the one that is met gets the intersected set.
use Rattle.std.proofs.Common.{refl, sym, ◌∙◌, arith}
use Rattle.merging.proofs.Joining.{into-start, into-turn, into-found, into-end}
use Rattle.merging.proofs.merge_into.Goals as goal

pub loop-i-init : goal.loop-i-init
loop-i-init c = λ t l forms h. into-start t _ l

pub returns-then-slot_of-number : goal.returns-then-slot_of-number
returns-then-slot_of-number c = (
  omega arith,
  λ t l forms h. into-found forms h (c.loop-i.invariant t l forms h) (omega (arith, h.size, c.loop-i-test.true)) _ _ _
      (sym c.slot_of.ensures ∙ c.if-slot_of-number.true ∙ c.slot_of-number.ensures)
      (rw (c.set_of.ensures, c.set_of-then-slot_of-number.ensures) at c.intersect-set.ensures) c.with_set.ensures refl refl,
)

pub loop-i-preserved : goal.loop-i-preserved
loop-i-preserved c =
    λ t l forms h. into-turn forms h (c.loop-i.invariant t l forms h) (omega (arith, h.size, c.loop-i-test.true))
    (λ e. c.if-slot_of-number.false (c.slot_of.ensures ∙ e ∙ sym c.slot_of-number.ensures))

pub returns : goal.returns
returns c = (
  omega (arith, c.push.ensures.0),
  λ t l forms h. into-end (c.loop-i.invariant t l forms h) (omega (arith, h.size, c.loop-i-test.false)) _ (c.push.ensures.1 l h),
)
