use Rattle.std.proofs.Common.{refl}
use Rattle.two_atoms.proofs.Findings.{no_number, to-three}
use Rattle.two_atoms.proofs.finding.non_negative.Goals as goal

pub returns-then-set-ne0 : goal.returns-then-set-ne0
returns-then-set-ne0 c = to-three _ c.if-set-ne0.true

pub returns-else-set-ne0 : goal.returns-else-set-ne0
returns-else-set-ne0 c = rw c.if-set-ne0.false (no_number 0 refl)
