-- `SignSet::sum` meets its contract: the formulas have the rule's 64 values.
use borrow.Author.Rules.{rules}
use mathlib.Core.Path.{refl, ◌∙◌}
use Rattle.rules.specs.Signs.{sum, open_signs}
use Rattle.signs.specs.ThreeBits.{three_bits, set_with}
use Rattle.signs.proofs.Remainder.{bits_of, sum-remainder}
use Rattle.signs.proofs.Values.{at-two}
use Rattle.signs.proofs.SignSet.sum.Statement.{statement}
use Rattle.signs.proofs.SignSet.sum.Tie as tie

returns : tie.Need-returns
unfolding open_signs three_bits set_with
returns c =
    let m = c.before.before.before.before.before.before.before.before.before.before.before.before.before.before.before in
    let a = m.before.before.args.self.0 in
    let b = m.before.before.args.other.0 in
    c.set_of.ensures ∙
    at-two sum sum-remainder a b (λ x y e d So so. rw (bits_of a x m.before.bits-a.ensures e, bits_of b y m.bits-b.ensures d) at so) refl

pub sum_spec : {M : Type 1} → statement M
sum_spec = tie.close (tie.spec (λ c κs. search rules) (λ c κs. search rules) (λ c κs. search rules) returns)
