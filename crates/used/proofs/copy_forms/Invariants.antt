use Rattle.std.proofs.Common.{ℕ}
use Rattle.used.specs.Tape.{lent}
use Rattle.used.proofs.Copying.{Copying}
use Rattle.used.proofs.copy_forms.Given as goal

abbrev pub invariant-loop-i : goal.invariant-loop-i
invariant-loop-i l =
    (n : ℕ) → Copying (lent n l.coefficient l.monomial l.terms) l.order l.used l.fn.new_coefficient l.new_coefficient l.fn.new_monomial l.new_monomial l.fn.new_terms l.new_terms l.i
