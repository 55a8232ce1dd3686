-- `apart` meets its contract: the difference of the cross products is not 0.
use borrow.Author.Rules.{rules}
use mathlib.Core.Path.{ap}
use mathlib.Core.Bool.{not}
use Rattle.deduction_laws.specs.Vanishing.{apart}
use Rattle.interval.specs.Coefficients.{zero-sign}
use Rattle.interval.proofs.Products.{product-back}
use Rattle.interval.proofs.vanishing.apart.Statement.{statement}
use Rattle.interval.proofs.vanishing.apart.Tie as tie

returns : tie.Need-returns
unfolding apart
returns c =
    let s = c.before.before.before.before in
    let f = s.ranges in
    rw (
      c.before.sign_between-between.ensures,
      product-back f.a f.d c.before.before.before.cross-ad.ensures,
      product-back f.c f.b c.before.before.cross-cb.ensures,
    )
    (ap not (zero-sign _))

pub apart_spec : {M : Type 1} → statement M
apart_spec = tie.close (tie.spec (λ c κs. search rules) (λ c κs. search rules) (λ c κs. search rules) returns)
