-- `cross` meets its contract: the product of two numbers of 32 bits fits 64.
use mir.Syntax.{w64}
use mir.ValLaws.{to_z-of_z}
use Rattle.interval.specs.Coefficients.{back}
use Rattle.interval.proofs.Products.{widened, product-fits}
use Rattle.interval.proofs.interval.cross.Statement.{statement}
use Rattle.interval.proofs.interval.cross.Tie as tie

returns : tie.Need-returns
returns c =
    let f = c.ranges in
    rw (back f.a, back f.b, to_z-of_z w64 _ (widened f.a), to_z-of_z w64 _ (widened f.b)) (to_z-of_z w64 _ (product-fits f.a f.b))

mul-result : tie.Need-overflow_mul-result
mul-result c =
    let f = c.ranges in
    rw (back f.a, back f.b, to_z-of_z w64 _ (widened f.a), to_z-of_z w64 _ (widened f.b)) (product-fits f.a f.b)

pub cross_spec : {M : Type 1} → statement M
cross_spec =
    tie.close (tie.spec (λ c. rw (back c.ranges.a) (widened c.ranges.a)) (λ c. rw (back c.ranges.b) (widened c.ranges.b)) mul-result returns)
