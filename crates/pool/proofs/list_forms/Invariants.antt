-- What is listed and what is left come to the same words.
use Rattle.std.proofs.Common.{◌≡◌, length}
use Rattle.terms.specs.View.{numbers_from}
use Rattle.pool.specs.Words.{all_listed}
use Rattle.pool.specs.Reading.{forms_in}
use Rattle.pool.proofs.Listings.{forms_left}
use Rattle.pool.proofs.list_forms.Given as goal

abbrev pub invariant-loop-i : goal.invariant-loop-i
invariant-loop-i l = record {
  as_long : length l.pool ≡ length l.fn.pool;
  left : all_listed l.number l.pool (forms_left l.coefficient l.monomial l.terms l.order l.count l.i)
      ≡ all_listed l.number l.fn.pool (forms_in l.coefficient l.monomial l.terms (numbers_from l.order 0 l.count));
}
