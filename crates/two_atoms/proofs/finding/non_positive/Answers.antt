use Rattle.std.proofs.Common.{rules}
use Rattle.two_atoms.proofs.Findings.{some-positive, none-positive}
use Rattle.two_atoms.proofs.finding.non_positive.Goals as goal

pub returns-in-2 : goal.returns-in-2
returns-in-2 c = some-positive _ c.in-2.is

pub returns-in_default : goal.returns-in_default
returns-in_default c = search (rules, none-positive)
