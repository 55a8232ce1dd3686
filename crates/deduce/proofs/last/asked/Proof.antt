-- `asked` meets its contract, by the sign set.
use Rattle.deduce.proofs.SignSets.{asked-positive, asked-negative, asked-none, asked-zero}
use Rattle.deduce.proofs.last.asked.Statement.{statement}
use Rattle.deduce.proofs.last.asked.Tie as tie

pub asked_spec : {M : Type 1} → statement M
asked_spec =
    tie.close
    (tie.spec (λ c. asked-positive _ c.in-1.is) (λ c. asked-negative _ c.in-4.is) (λ c. asked-none _ c.in-0.is)
    (λ c. let m = c.in_default.in_default-own.rest in asked-zero _ m.0.0.1 m.0.1 m.1))
