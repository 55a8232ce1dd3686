-- `tested` meets its contract: the sign of t is its numerator's, and the tests are the book's.
use borrow.Author.Rules.{rules}
use mathlib.Core.Path.{ap, ◌∙◌}
use Rattle.rules.specs.Signs.{sign_of, only}
use Rattle.plain.specs.Tests.{after_all}
use Rattle.plain.proofs.Seens.{seen-after}
use Rattle.plain.proofs.met.tested.Statement.{statement}
use Rattle.plain.proofs.met.tested.Tie as tie

returns : tie.Need-returns
unfolding after_all
returns c f i =
    let sign = c.before.sign.ensures ∙ ap (λ z. only (sign_of z)) i.c in
    let after = c.and_then.ensures in
    record { on = λ s t. seen-after _ _ f (rw sign at after) ((c.before.before.test_value-passed.ensures f i).on s t) }

pub tested_spec : {M : Type 1} → statement M
tested_spec = tie.close (tie.spec (λ c κs. search rules) (λ c κs. search rules) (λ c κs. search rules) returns)
