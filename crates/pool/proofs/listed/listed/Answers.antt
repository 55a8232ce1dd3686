use native.Mathlib.Nat.{sub-zero}
use Rattle.std.proofs.Common.{ℕ, ◌+◌, ◌<◌, List, ◌∙◌, refl, sym, ap, arith, length, get_or, length-set}
use Rattle.terms.specs.View.{numbers_from}
use Rattle.pool.specs.Listing.{constant_in}
use Rattle.pool.proofs.Listings.{listing_from, listing-out, listing-in, listing-end, one-behind, stored-below}
use Rattle.pool.proofs.listed.listed.Goals.{then-not-is_out, else-not-is_out}
use Rattle.pool.proofs.listed.listed.Goals as goal

pub loop-i-init : goal.loop-i-init
unfolding numbers_from
loop-i-init c = record { few = omega arith; as_long = refl; left = simp sub-zero; below = λ j h. absurd (omega arith) }

pub loop-i-preserved : goal.loop-i-preserved
loop-i-preserved c =
    let l = c.loop-i in
    let a = c.args in
    let v = get_or a.number.now l.i 0 in
    let room : l.count < length l.order = omega (arith, l.invariant.few, l.invariant.as_long, c.loop-i-test.true, c.requires.1.most, c.requires.2) in
    elim c.if-not-is_out.branch [
      | then-not-is_out w ↦ rw (w.order-is, w.count-is) (record {
        few = omega arith;
        as_long = length-set l.order l.count v ∙ l.invariant.as_long;
        left = ap (λ (x : List ℕ). listing_from (constant_in a.monomial.now a.terms.now) a.number.now a.polynomials x (l.i + 1))
            (one-behind l.order l.count v room)
            ∙ listing-in (constant_in a.monomial.now a.terms.now) a.number.now a.polynomials (numbers_from l.order 0 l.count) l.i
            c.loop-i-test.true (sym c.is_out.ensures ∙ w.if-not-is_out.true)
            ∙ l.invariant.left;
        below = stored-below l.order l.count v room (c.requires.1.below l.i c.loop-i-test.true) l.invariant.below;
      })
      | else-not-is_out w ↦ rw (w.order-is, w.count-is) (record {
        few = omega arith;
        as_long = l.invariant.as_long;
        left = listing-out (constant_in a.monomial.now a.terms.now) a.number.now a.polynomials (numbers_from l.order 0 l.count) l.i
            c.loop-i-test.true (sym c.is_out.ensures ∙ w.if-not-is_out.false) ∙ l.invariant.left;
        below = l.invariant.below;
      })
    ]

pub returns : goal.returns
returns c =
    let l = c.loop-i in
    let a = c.args in
    record {
      is = sym (listing-end (constant_in a.monomial.now a.terms.now) a.number.now a.polynomials (numbers_from l.order 0 l.count) l.i
          c.loop-i-test.false) ∙ l.invariant.left;
      few = omega arith;
      below = l.invariant.below;
    }
