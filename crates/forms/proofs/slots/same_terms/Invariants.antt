-- Whether what is left is the same stays whether all is.
use Rattle.std.proofs.Common.{◌≡◌}
use Rattle.rules.specs.Polynomial.{same}
use Rattle.terms.specs.View.{terms_from}
use Rattle.forms.proofs.Searches.{same_left}
use Rattle.forms.proofs.slots.same_terms.Given as goal

abbrev pub invariant-loop-i : goal.invariant-loop-i
invariant-loop-i l =
    same_left l.coefficient l.monomial l.first l.second l.i l.count
    ≡ same (terms_from l.coefficient l.monomial l.first l.count) (terms_from l.coefficient l.monomial l.second l.count)
