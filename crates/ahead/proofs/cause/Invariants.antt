use Rattle.std.proofs.Common.{◌≡◌}
use Rattle.table.specs.Table.{many}
use Rattle.ahead.proofs.cause.Given as goal

abbrev pub invariant-loop-j : goal.invariant-loop-j
invariant-loop-j l = l.n ≡ many l.atoms.count
