-- What is left to do, done from the arrays as they are, stays what was asked.
use Rattle.std.proofs.Common.{◌≡◌, ◌-◌, false, length}
use Rattle.normal.specs.Stores.{stores}
use Rattle.forms.specs.Slots.{slot_turned, normal_slots, turned_slots}
use Rattle.forms.proofs.slots.normalize_all.Given as goal

abbrev pub invariant-loop-i : goal.invariant-loop-i
invariant-loop-i l =
    record {
      targets : length l.target ≡ length l.fn.target;
      flags : length l.turned ≡ length l.fn.turned;
      forms : normal_slots l.coefficient l.terms l.target l.i (l.polynomials - l.i) ≡ normal_slots l.coefficient l.terms l.fn.target 0 l.polynomials;
      turns : stores false (λ j. j) (λ j x. slot_turned l.coefficient l.terms j) l.turned l.i l.polynomials ≡ turned_slots l.coefficient l.terms l.fn.turned l.polynomials;
    }
