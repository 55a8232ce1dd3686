use Rattle.std.proofs.Common.{◌≡◌, ◌+◌, ◌-◌, ◌*◌, ◌%◌, ◌^◌, length, take, drop, arith}
use Rattle.rules.specs.Bits.{value, unpack}
use Rattle.bits.proofs.Turns.{Turn, begins, goes_on, reads_on, fits_word}
use Rattle.bits.proofs.by_bytes.Goals as goal

pub loop-left-init : goal.loop-left-init
unfolding value
loop-left-init c = let none : c.args.k - c.args.k ≡ 0 = omega arith in (begins c.args.at c.args.k, rw none)

turn : (c : goal.After-part) → Turn (length c.args.src.now) c.args.at c.args.k c.loop-left.left c.loop-left.byte c.loop-left.room c.min-count.result
turn c = record { inside = c.requires.1; standing = c.loop-left.invariant.0; more = c.loop-left-test.true; counted = c.min-count.ensures }

next : (c : goal.After-part) → c.loop-left.sofar * 2 ^ c.min-count.result % 2 ^ 64 + c.part.result
    ≡ value (take (c.args.k - (c.loop-left.left - c.min-count.result)) (drop c.args.at (unpack c.args.src.now)))
next c = reads_on c.args.src.now (turn c) c.loop-left.sofar c.part.result c.requires.0 c.loop-left.invariant.1 c.part.ensures

pub overflow_add-sofar : goal.overflow_add-sofar
overflow_add-sofar c = record {
  fits = rw (next c) (fits_word c.args.src.now c.args.at (c.args.k - (c.loop-left.left - c.min-count.result)) (omega (arith, c.requires.0)));
}

pub loop-left-preserved : goal.loop-left-preserved
loop-left-preserved c = (goes_on (turn c), next c)
