-- The places passed are filled.
use Rattle.std.proofs.Common.{◌≡◌, length}
use Rattle.steps.proofs.Handing.{Filled}
use Rattle.steps.proofs.tidying.atoms_in.Given as goal

abbrev pub invariant-loop-i : goal.invariant-loop-i
invariant-loop-i l = record {
  counted : l.atoms.count ≡ l.n;
  numbers : length l.atoms.number ≡ 64;
  sets : length l.atoms.set ≡ 64;
  filled : Filled l.list l.atoms.number l.atoms.set l.i;
}
