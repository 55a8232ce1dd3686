-- The variables that are left, put into the arrays as they are, stay what was asked.
use Rattle.std.proofs.Common.{◌≡◌, suc, ◌+◌, ◌-◌, ◌*◌, ◌^◌, pos, length}
use Rattle.normal.specs.Stores.{stores}
use Rattle.forms.specs.Slots.{variable_coefficients, variable_monomials, variable_counts}
use Rattle.forms.proofs.slots.put_variables.Given as goal

abbrev pub invariant-loop-i : goal.invariant-loop-i
invariant-loop-i l =
    record {
      coefficients-long : length l.coefficient ≡ length l.fn.coefficient;
      monomials-long : length l.monomial ≡ length l.fn.monomial;
      terms-long : length l.terms ≡ length l.fn.terms;
      coefficients : stores (pos 0) (λ j. 16 * (64 + j)) (λ j x. pos 1) l.coefficient l.i l.variables ≡ variable_coefficients l.variables l.fn.coefficient;
      monomials : stores 0 (λ j. 16 * (64 + j)) (λ j x. 16 ^ (l.variables - suc j)) l.monomial l.i l.variables ≡ variable_monomials l.variables l.fn.monomial;
      counts : stores 0 (λ j. 64 + j) (λ j x. 1) l.terms l.i l.variables ≡ variable_counts l.variables l.fn.terms;
    }
