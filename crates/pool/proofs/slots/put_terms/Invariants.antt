-- What is left to store, from what is stored so far.
use Rattle.std.proofs.Common.{◌≡◌, length}
use Rattle.terms.specs.View.{terms_from}
use Rattle.pool.specs.Words.{put_terms}
use Rattle.pool.proofs.Walks.{put_from}
use Rattle.pool.proofs.slots.put_terms.Given as goal

abbrev pub invariant-loop-i : goal.invariant-loop-i
invariant-loop-i l = record {
  as_long : length l.pool ≡ length l.fn.pool;
  left : put_from l.pool l.k l.coefficient l.monomial l.from l.count l.i ≡ put_terms l.fn.pool l.k (terms_from l.coefficient l.monomial l.from l.count) 16;
}

abbrev pub invariant-loop-i-2 : goal.invariant-loop-i-2
invariant-loop-i-2 l = record {
  as_long : length l.pool ≡ length l.fn.pool;
  left : put_from l.pool l.k l.coefficient l.monomial l.from l.count l.i ≡ put_terms l.fn.pool l.k (terms_from l.coefficient l.monomial l.from l.count) 16;
}
