-- `plus` meets its contract: a + u·b fits 64 bits.
use borrow.Author.Rules.{rules}
use mir.Syntax.{w64}
use mir.ValLaws.{to_z-of_z}
use Rattle.interval.specs.Coefficients.{back}
use Rattle.two_atoms.proofs.Sums.{widened, product-back, plus-fits}
use Rattle.two_atoms.proofs.sum.plus.Statement.{statement}
use Rattle.two_atoms.proofs.sum.plus.Tie as tie

add-result : tie.Need-overflow_add-result
add-result c =
    let f = c.before.ranges in
    rw (back f.a, to_z-of_z w64 _ (widened f.a), product-back f.u f.b c.cross.ensures) (plus-fits f.a f.u f.b)

returns : tie.Need-returns
returns c =
    let f = c.before.ranges in
    rw (back f.a, to_z-of_z w64 _ (widened f.a), product-back f.u f.b c.cross.ensures) (to_z-of_z w64 _ (plus-fits f.a f.u f.b))

pub plus_spec : {M : Type 1} → statement M
plus_spec = tie.close (tie.spec (λ c. rw (back c.ranges.a) (widened c.ranges.a)) (λ c κs. search rules) add-result returns)
