-- `wanted` meets its contract, by the sign set.
use Rattle.plain.proofs.Sets.{wanted_up, wanted-down, wanted-any, wanted-none}
use Rattle.plain.proofs.tests.wanted.Statement.{statement}
use Rattle.plain.proofs.tests.wanted.Tie as tie

pub wanted_spec : {M : Type 1} → statement M
wanted_spec =
    tie.close
    (tie.spec (λ c. wanted_up _ c.in-4.is) (λ c. wanted-down _ c.in-1.is) (λ c. wanted-any _ c.in-2.is)
    (λ c. let m = c.in_default.in_default-own.rest in wanted-none _ m.0.0.1 m.0.1 m.1))
