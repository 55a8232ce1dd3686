-- `sofar` is the value of the field's bits that were passed.
use Rattle.std.proofs.Common.{◌≡◌, ◌-◌, take, drop}
use Rattle.rules.specs.Bits.{value, unpack}
use Rattle.bits.proofs.Turns.{Standing}
use Rattle.bits.proofs.by_bytes.Given as goal

abbrev pub invariant-loop-left : goal.invariant-loop-left
invariant-loop-left l =
    Standing l.at l.k l.left l.byte l.room × (l.sofar ≡ value (take (l.k - l.left) (drop l.at (unpack l.src))))

abbrev pub decreases-loop-left : goal.decreases-loop-left
decreases-loop-left l = l.left
