-- What is counted and what is left are all that are new.
use Rattle.std.proofs.Common.{◌≡◌, ◌+◌, ◌≤◌}
use Rattle.rules.specs.Pool.{forms_in_use}
use Rattle.pool_laws.specs.Places.{new_forms}
use Rattle.terms.specs.View.{numbers_from}
use Rattle.pool.specs.Words.{slots_of}
use Rattle.pool.specs.Reading.{forms_in}
use Rattle.pool.proofs.Listings.{forms_left}
use Rattle.pool.proofs.new_forms.Given as goal

abbrev pub invariant-loop-i : goal.invariant-loop-i
invariant-loop-i l = record {
  most : l.total ≤ l.i;
  left : l.total + new_forms (forms_in_use (slots_of l.pool)) (forms_left l.coefficient l.monomial l.terms l.order l.count l.i)
      ≡ new_forms (forms_in_use (slots_of l.pool)) (forms_in l.coefficient l.monomial l.terms (numbers_from l.order 0 l.count));
}
