-- The three bits of the set, but for one sign.
use Rattle.std.proofs.Common.{arith}
use Rattle.rounds.proofs.Spares.{size_is, spare-is}
use Rattle.rounds.proofs.counting.spare.Goals as goal

pub returns : goal.returns
returns c = spare-is c.args.set _ (omega (arith, size_is c.args.set))
