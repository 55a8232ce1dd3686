-- What is left to store gives, from what is stored, the whole.
use Rattle.std.proofs.Common.{◌≡◌, ◌+◌, ◌-◌}
use Rattle.std.proofs.lemmas.List.Edits.{sets}
use Rattle.rules.specs.Bits.{field, unpack}
use Rattle.bits.proofs.Turns.{Standing}
use Rattle.bits.proofs.put.Given as goal

abbrev pub invariant-loop-left : goal.invariant-loop-left
invariant-loop-left l =
    Standing l.at l.k l.left l.byte l.room
    × (sets (unpack l.dst) (l.at + (l.k - l.left)) (field l.left l.v) ≡ sets (unpack l.fn.dst) l.at (field l.k l.v))

abbrev pub decreases-loop-left : goal.decreases-loop-left
decreases-loop-left l = l.left
