-- What is left to compare decides as all would.
use Rattle.std.proofs.Common.{◌≡◌}
use Rattle.rules.specs.Polynomial.{same}
use Rattle.terms.specs.View.{terms_from}
use Rattle.script_polynomial.proofs.Comparing.{same_left}
use Rattle.script_polynomial.proofs.tabled.same_terms.Given as goal

abbrev pub invariant-loop-i : goal.invariant-loop-i
invariant-loop-i l =
    same_left l.coefficient l.monomial l.value l.powers l.place l.count l.i ≡ same (terms_from l.value l.powers 0 l.count) (terms_from l.coefficient l.monomial l.place l.count)
