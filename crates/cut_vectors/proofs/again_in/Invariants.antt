-- The values up to 256 fall.
use Rattle.std.proofs.Common.{◌-◌}
use Rattle.cut_vectors.proofs.again_in.Given as goal

abbrev pub decreases-loop-v : goal.decreases-loop-v
decreases-loop-v l = 256 - l.v
