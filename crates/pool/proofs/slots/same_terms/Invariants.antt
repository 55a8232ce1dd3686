-- Whether what is left is the same stays whether all is.
use Rattle.std.proofs.Common.{◌≡◌}
use Rattle.rules.specs.Polynomial.{same}
use Rattle.terms.specs.View.{terms_from}
use Rattle.pool.specs.Words.{terms_in}
use Rattle.pool.proofs.Walks.{same_left}
use Rattle.pool.proofs.slots.same_terms.Given as goal

abbrev pub invariant-loop-i : goal.invariant-loop-i
invariant-loop-i l =
    same_left l.pool l.k l.coefficient l.monomial l.from l.i l.count ≡ same (terms_from l.coefficient l.monomial l.from l.count) (terms_in l.pool l.k l.count)
