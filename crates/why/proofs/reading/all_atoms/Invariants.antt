-- The tokens that are left are atoms' only exactly if all are.
use Rattle.std.proofs.Common.{◌≡◌, take, drop}
use Rattle.why.specs.Flat.{all_atoms}
use Rattle.why.proofs.reading.all_atoms.Given as goal

abbrev pub invariant-loop-i : goal.invariant-loop-i
invariant-loop-i l = all_atoms (drop l.i (take l.count l.token)) ≡ all_atoms (drop l.from (take l.count l.token))
