-- `End::sign-at` meets its contract: the difference of the cross products, by the sign of the denominator.
use borrow.Author.Rules.{rules}
use mathlib.Core.Path.{◌≡◌}
use lib.IntN.{◌*ℤ◌}
use mir.Syntax.{w32, w64}
use mir.Val.{SFits, to_z, of_z}
use Rattle.interval.specs.Coefficients.{back}
use Rattle.interval.proofs.Products.{product-back}
use Rattle.interval.proofs.Values.{value-falling, value-rising}
use Rattle.interval.proofs.interval.End.sign_at.Statement.{statement}
use Rattle.interval.proofs.interval.End.sign_at.Tie as tie

denominator-fits : (c : tie.After-struct_told-3-1) → SFits w32 c.before.before.before.before.before.before.args.self.b
denominator-fits c = record { sfits = c.struct_told-3-1.given.1.0.1 }

numerator-fits : (c : tie.After-struct_told-3-1) → SFits w32 c.before.before.before.before.before.before.args.self.a
numerator-fits c = record { sfits = c.struct_told-3-1.given.0.1 }

-- the two cross products
ad : (c : tie.After-struct_told-3-1) → let a = c.before.before.before.before.before.before.args in
    to_z w64 (of_z w64 c.before.before.before.before.cross-ad.result) ≡ a.a *ℤ a.self.b
ad c = product-back c.before.before.before.before.before.before.ranges.a (denominator-fits c) c.before.before.before.before.cross-ad.ensures

cb : (c : tie.After-struct_told-3-1) → let a = c.before.before.before.before.before.before.args in
    to_z w64 (of_z w64 c.before.before.cross-cb.result) ≡ a.self.a *ℤ a.b
cb c = product-back (numerator-fits c) c.before.before.before.before.before.before.ranges.b c.before.before.cross-cb.ensures

returns : tie.Need-returns-then-self-lt0
returns c t e =
    let d = c.before.before in
    rw (c.sign_between.ensures, ad d, cb d, value-falling _ _ _ _ t (rw (back (denominator-fits d)) at c.before.if-self-lt0.true) e)

returns-2 : tie.Need-returns-else-self-lt0
returns-2 c t e =
    let d = c.before.before in
    rw (c.sign_between-else-self-lt0.ensures, ad d, cb d, value-rising _ _ _ _ t (rw (back (denominator-fits d)) at c.before.if-self-lt0.false) e)

pub sign_at_spec : {M : Type 1} → statement M
sign_at_spec =
    tie.close
    (tie.spec (λ c κs. search rules) (λ c κs. search rules) (λ c κs. search rules) (λ c κs. search rules) returns returns-2)
