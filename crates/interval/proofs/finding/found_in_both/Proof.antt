-- `found_in_both` meets its contract: what L gives, intersected with the mirror of what U gives.
use borrow.Author.Rules.{rules}
use Rattle.interval.proofs.finding.found_in_both.Statement.{statement}
use Rattle.interval.proofs.finding.found_in_both.Tie as tie

returns : tie.Need-returns
returns c = rw (c.intersect.ensures, c.before.mirror.ensures, c.before.before.before.found_in.ensures, c.before.before.found_in-2.ensures)

pub found_in_both_spec : {M : Type 1} → statement M
found_in_both_spec = tie.close (tie.spec (λ c κs. search rules) (λ c κs. search rules) (λ c κs. search rules) (λ c κs. search rules) returns)
