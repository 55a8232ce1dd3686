-- Between two writes the area is the image after those below k.
use Rattle.std.proofs.Common.{◌≡◌, ◌≤◌}
use Rattle.loading_laws.specs.Loading.{image_after}
use Rattle.loading.proofs.write_all.Given as goal

abbrev pub invariant-loop-k : goal.invariant-loop-k
invariant-loop-k l = record { image : l.area ≡ image_after l.block l.initial.area l.k; within : l.k ≤ l.size }
