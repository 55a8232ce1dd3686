-- The byte that is being written lies in the image, and the values up to 256 fall.
use Rattle.std.proofs.Common.{◌-◌, ◌<◌, length}
use Rattle.cut_vectors.proofs.cut_in.Given as goal

abbrev pub invariant-loop-v : goal.invariant-loop-v
invariant-loop-v l = l.at < length l.image

abbrev pub decreases-loop-v : goal.decreases-loop-v
decreases-loop-v l = 256 - l.v
