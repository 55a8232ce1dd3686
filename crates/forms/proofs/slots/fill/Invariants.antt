-- The fillers that are left, put into the arrays as they are, stay what was asked.
use Rattle.std.proofs.Common.{◌≡◌, ◌+◌, ◌*◌, cond, pos, length}
use Rattle.normal.specs.Stores.{stores}
use Rattle.forms.specs.Slots.{is_own, filled_coefficients, filled_monomials, filled_counts}
use Rattle.forms.proofs.slots.fill.Given as goal

abbrev pub invariant-loop-i : goal.invariant-loop-i
invariant-loop-i l =
    record {
      coefficients-long : length l.coefficient ≡ length l.fn.coefficient;
      monomials-long : length l.monomial ≡ length l.fn.monomial;
      terms-long : length l.terms ≡ length l.fn.terms;
      coefficients : stores (pos 0) (λ j. 16 * j) (λ j x. cond (is_own l.number l.polynomials j) x (pos 0)) l.coefficient l.i 64 ≡ filled_coefficients (is_own l.number l.polynomials) l.fn.coefficient;
      monomials : stores 0 (λ j. 16 * j) (λ j x. cond (is_own l.number l.polynomials j) x (j + 1)) l.monomial l.i 64 ≡ filled_monomials (is_own l.number l.polynomials) l.fn.monomial;
      counts : stores 0 (λ j. j) (λ j x. cond (is_own l.number l.polynomials j) x 1) l.terms l.i 64 ≡ filled_counts (is_own l.number l.polynomials) l.fn.terms;
    }
