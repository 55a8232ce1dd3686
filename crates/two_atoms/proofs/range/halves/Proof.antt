-- `halves` meets its contract.
use Rattle.two_atoms.proofs.Spares.{both_halves, low_half, high_half, no-half}
use Rattle.two_atoms.proofs.range.halves.Statement.{statement}
use Rattle.two_atoms.proofs.range.halves.Tie as tie

pub halves_spec : {M : Type 1} → statement M
halves_spec =
    tie.close
    (tie.spec (λ c. both_halves) (λ c. rw c.if-high.false low_half) (λ c. rw c.before.if-low.false high_half)
    (λ c. rw (c.before.if-low.false, c.if-high-2.false) no-half))
