-- `staying` meets its contract: the same set, or another.
use borrow.Author.Rules.{rules}
use borrow.Author.Tests.{eq-eqb, ne_eqb}
use Rattle.rules.specs.Reasons.{kept_or_narrowed}
use Rattle.reasons.specs.Records.{made}
use Rattle.reasons.proofs.staying.Statement.{statement}
use Rattle.reasons.proofs.staying.Tie as tie

kept : tie.Need-returns-then-set-own
unfolding made kept_or_narrowed
kept c = rw (eq-eqb _ _ c.before.if-set-own.true) c.without_places.ensures

narrowed : tie.Need-returns
unfolding made kept_or_narrowed
narrowed c = rw (ne_eqb _ _ c.before.if-set-own.false) c.without_places-2.ensures

pub staying_spec : {M : Type 1} → statement M
staying_spec = tie.close (tie.spec (λ c κs. search rules) kept (λ c κs. search rules) narrowed)
