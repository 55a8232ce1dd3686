-- `still` meets its contract, by the two sets.
use Rattle.columns.specs.Columns.{still-same, still-all}
use Rattle.columns.proofs.still.Statement.{statement}
use Rattle.columns.proofs.still.Tie as tie

pub still_spec : {M : Type 1} → statement M
still_spec = tie.close (tie.spec (λ c. still-same _ c.if-before-after.true) (λ c. still-all _ _ _))
