use lib.Pow.{pow-lt}
use native.Mathlib.Nat.{one-mul, mod-eq_of_lt}
use Rattle.std.proofs.Common.{◌%◌, ◌<◌, arith}
use Rattle.masks.proofs.Walks.{when-there}
use Rattle.masks.proofs.bit_if.Goals as goal

pub returns-then-there : goal.returns-then-there
returns-then-there c =
    let low : c.args.place % 64 < 64 = omega arith in
    when-there c.if-there.true (rw (one-mul, mod-eq_of_lt (pow-lt low)))
