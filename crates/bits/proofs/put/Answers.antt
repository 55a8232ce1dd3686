use Rattle.std.proofs.Common.{◌≡◌, ◌∙◌, length, arith}
use Rattle.rules.specs.Bits.{field}
use Rattle.bits.proofs.Turns.{Turn, goes_on, stores-on}
use Rattle.bits.proofs.put.Goals as goal

pub loop-left-preserved : goal.loop-left-preserved
loop-left-preserved c =
    let l = c.loop-left in
    let t : Turn (length l.dst) c.args.at c.args.k l.left l.byte l.room c.min-count.result =
    record { inside = omega (arith, l.auto.dst, c.requires.1); standing = l.invariant.0; more = c.loop-left-test.true; counted = c.min-count.ensures } in
    (goes_on t, stores-on l.dst t c.args.v c.with_part.result c.with_part.ensures ∙ l.invariant.1)

pub returns : goal.returns
unfolding field
returns c = let none : c.loop-left.left ≡ 0 = omega (arith, c.loop-left-test.false) in rw none at c.loop-left.invariant.1
