-- The stores that are left, done from the array as it is, stay what was asked.
use Rattle.std.proofs.Common.{◌≡◌, length}
use Rattle.normal.specs.Stores.{stores}
use Rattle.forms.specs.Slots.{number_of, numbered_slots}
use Rattle.forms.proofs.slots.number_all.Given as goal

abbrev pub invariant-loop-i : goal.invariant-loop-i
invariant-loop-i l =
    record { as_long : length l.number ≡ length l.fn.number; left : stores 0 (λ j. j) (λ j x. number_of l.coefficient l.monomial l.terms j) l.number l.i l.polynomials ≡ numbered_slots l.coefficient l.monomial l.terms l.fn.number l.polynomials }
