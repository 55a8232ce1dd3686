-- `Seen::finding` meets its contract: what L gives and what U gives, intersected.
use borrow.Author.Rules.{rules}
use Rattle.plain.specs.Tests.{finding_from}
use Rattle.plain.proofs.tests.Seen.finding.Statement.{statement}
use Rattle.plain.proofs.tests.Seen.finding.Tie as tie

returns : tie.Need-returns
unfolding finding_from
returns c = rw (c.intersect.ensures, c.before.mirror.ensures, c.before.before.found-2.ensures, c.before.before.before.found.ensures)

pub finding_spec : {M : Type 1} → statement M
finding_spec = tie.close (tie.spec (λ c κs. search rules) (λ c κs. search rules) (λ c κs. search rules) (λ c κs. search rules) returns)
