-- Each word is the mask of the first variables, and within 64 bits.
use Rattle.std.proofs.Common.{◌+◌, ◌*◌, ◌/◌, ◌%◌, ◌<◌, ◌≤◌, true, refl, get_or, arith}
use Rattle.rules.specs.Signs.{negative, nought, positive, has, bit}
use Rattle.terms.proofs.Building.{built-more, built-all, built-fits, negative-bit, zero_bit, positive-bit}
use Rattle.terms.proofs.masks.masks_of.Goals as goal

pub loop-i-preserved : goal.loop-i-preserved
unfolding bit
loop-i-preserved c =
    let w = c.loop-i.invariant in
    let sets = c.args.b.sets in
    let n = c.few-n.result in
    let s = get_or sets c.loop-i.i 0 in
    let h : c.loop-i.i < n = c.loop-i-test.true in
    record {
      all-built = built-more (λ s. true) sets n h refl w.all-built;
      negative-built = built-more (has negative) sets n h (negative-bit s) w.negative-built;
      zero-built = built-more (has nought) sets n h (zero_bit s) w.zero-built;
      positive-built = built-more (has positive) sets n h (positive-bit s) w.positive-built;
    }

-- each word with one variable more within 64 bits
module _ (c : goal.After-set-1) where
  few : c.few-n.result ≤ 16
  few = omega (arith, c.few-n.ensures)

  all-fits : 16 * c.loop-i.all + 1 < 18446744073709551616
  all-fits = built-fits (λ s. true) _ _ few (loop-i-preserved c).all-built

  negative-fits : 16 * c.loop-i.negative + get_or c.args.b.sets c.loop-i.i 0 / 4 % 2 < 18446744073709551616
  negative-fits = built-fits (has negative) _ _ few (loop-i-preserved c).negative-built

  zero-fits : 16 * c.loop-i.zero + get_or c.args.b.sets c.loop-i.i 0 / 2 % 2 < 18446744073709551616
  zero-fits = built-fits (has nought) _ _ few (loop-i-preserved c).zero-built

  positive-fits : 16 * c.loop-i.positive + get_or c.args.b.sets c.loop-i.i 0 % 2 < 18446744073709551616
  positive-fits = built-fits (has positive) _ _ few (loop-i-preserved c).positive-built

pub overflow_mul-all : goal.overflow_mul-all
overflow_mul-all c = omega (arith, all-fits c)

pub overflow_add-all : goal.overflow_add-all
overflow_add-all c = omega (arith, all-fits c)

pub overflow_mul-negative : goal.overflow_mul-negative
overflow_mul-negative c = omega (arith, negative-fits c)

pub overflow_add-negative : goal.overflow_add-negative
overflow_add-negative c = omega (arith, negative-fits c)

pub overflow_mul-zero : goal.overflow_mul-zero
overflow_mul-zero c = omega (arith, zero-fits c)

pub overflow_add-zero : goal.overflow_add-zero
overflow_add-zero c = omega (arith, zero-fits c)

pub overflow_mul-positive : goal.overflow_mul-positive
overflow_mul-positive c = omega (arith, positive-fits c)

pub overflow_add-positive : goal.overflow_add-positive
overflow_add-positive c = omega (arith, positive-fits c)

pub returns : goal.returns
returns c =
    let w = c.loop-i.invariant in
    let h : c.few-n.result ≤ c.loop-i.i = c.loop-i-test.false in
    rw (← c.few-n.ensures) (record {
      all = built-all (λ s. true) _ _ h w.all-built;
      negative = built-all (has negative) _ _ h w.negative-built;
      zero = built-all (has nought) _ _ h w.zero-built;
      positive = built-all (has positive) _ _ h w.positive-built;
    })
