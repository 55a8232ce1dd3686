-- `sign_of` meets its contract, by the two tests.
use mir.Syntax.{w32}
use mir.ValLaws.{to_z-of_z}
use Rattle.terms.proofs.Coefficients.{sign-negative, sign-positive, sign-nought}
use Rattle.terms.proofs.sign_of.Statement.{statement}
use Rattle.terms.proofs.sign_of.Tie as tie

pub sign_of_spec : {M : Type 1} → statement M
sign_of_spec =
    tie.close
    (tie.spec (λ c. sign-negative _ (rw (to_z-of_z w32 _ c.before.ranges.x) at c.if-x-lt0.true))
    (λ c. sign-positive _ (rw (to_z-of_z w32 _ c.before.before.ranges.x) at c.if-x-gt0.true))
    (λ c. let b = to_z-of_z w32 _ c.before.before.ranges.x in sign-nought _ (rw b at c.before.if-x-lt0.false) (rw b at c.if-x-gt0.false)))
