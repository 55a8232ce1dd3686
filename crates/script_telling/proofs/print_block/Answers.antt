-- The line has room for the hex pairs of the block.
use Rattle.std.proofs.Common.{arith}
use Rattle.lines.specs.Parts.{hex-long}
use Rattle.script_telling.proofs.print_block.Goals as goal

pub put_hex-end-requires : goal.put_hex-end-requires
put_hex-end-requires g c = omega (arith, hex-long c.args.block.now)
