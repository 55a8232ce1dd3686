-- What is listed and what is left come to the same list.
use Rattle.std.proofs.Common.{◌≡◌, ℕ, ◌<◌, ◌≤◌, [], length, get_or}
use Rattle.terms.specs.View.{numbers_from}
use Rattle.pool.specs.Listing.{constant_in, listing}
use Rattle.pool.proofs.Listings.{listing_from}
use Rattle.pool.proofs.listed.listed.Given as goal

abbrev pub invariant-loop-i : goal.invariant-loop-i
invariant-loop-i l = record {
  few : l.count ≤ l.i;
  as_long : length l.order ≡ length l.fn.order;
  left : listing_from (constant_in l.monomial l.terms) l.number l.polynomials (numbers_from l.order 0 l.count) l.i
      ≡ listing (constant_in l.monomial l.terms) [] (numbers_from l.number 0 l.polynomials);
  below : (j : ℕ) → j < l.count → get_or l.order j 0 < 64;
}
