use Rattle.pairs.proofs.Reading.{first_below, first-beyond, sum-small, pairs-go-on, pairs_end, pairs-end-zero}
use Rattle.pairs.proofs.tell.Goals as goal

pub returns-then-variable-least : goal.returns-then-variable-least
returns-then-variable-least c = first_below c.requires.0 c.loop-i.invariant c.loop-i-test.true c.get-pair.ensures c.if-variable-least.true

pub returns-then-n-variable : goal.returns-then-n-variable
returns-then-n-variable c =
    first-beyond c.requires.0 c.loop-i.invariant c.loop-i-test.true c.get-pair.ensures c.if-variable-least.false c.if-n-variable.true

pub overflow_add-exponents : goal.overflow_add-exponents
overflow_add-exponents c = record {
  fits = sum-small c.requires.0 c.loop-i.invariant c.loop-i-test.true c.get-pair.ensures c.if-variable-least.false c.if-n-variable.false
      c.placed-exponents.ensures c.requires.1;
}

pub loop-i-preserved : goal.loop-i-preserved
loop-i-preserved c =
    pairs-go-on c.requires.0 c.loop-i.invariant c.loop-i-test.true c.get-pair.ensures c.if-variable-least.false c.if-n-variable.false
    c.placed-exponents.ensures c.still_above-above.ensures

pub returns-then-above : goal.returns-then-above
returns-then-above c = pairs_end c.loop-i.invariant c.loop-i-test.false c.if-above.true

pub returns : goal.returns
returns c = pairs-end-zero c.loop-i.invariant c.loop-i-test.false c.if-above.false
