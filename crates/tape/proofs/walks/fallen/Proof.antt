use Rattle.tape.specs.Entering.{goes-fails}
use Rattle.tape.proofs.walks.fallen.Statement.{statement}
use Rattle.tape.proofs.walks.fallen.Tie as tie

pub fallen_spec : {M : Type 1} → statement M
fallen_spec = tie.close (tie.spec (λ c t walk s. goes-fails s))
