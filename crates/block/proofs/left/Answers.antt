use Rattle.std.proofs.Common.{arith}
use Rattle.block.proofs.Steps.{length-left}
use Rattle.block.proofs.left.Goals as goal

pub returns : goal.returns
returns c = record { counted = rw (length-left c.args.src.now c.args.place.at) (omega arith); up_to_end = omega arith }
