-- The slots that are left, worked out from the signs as they are, give what was asked.
use Rattle.std.proofs.Common.{◌≡◌, ◌-◌, length}
use Rattle.rules.specs.Polynomial.{Board}
use Rattle.terms.specs.Masks.{MasksOf}
use Rattle.round.specs.Signing.{variable_slot, signed_slots}
use Rattle.round.proofs.slots.sign_variables.Given as goal

abbrev pub invariant-loop-i : goal.invariant-loop-i
invariant-loop-i l = record {
  as_long : length l.sign ≡ length l.fn.sign;
  left : (board : Board) → MasksOf board l.masks
      → signed_slots board l.monomial l.terms variable_slot l.sign l.i (l.variables - l.i)
      ≡ signed_slots board l.monomial l.terms variable_slot l.fn.sign 0 l.variables;
}
