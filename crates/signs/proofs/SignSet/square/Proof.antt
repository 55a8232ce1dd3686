-- `SignSet::square` meets its contract: the formula has the rule's eight values.
use borrow.Author.Rules.{rules}
use mathlib.Core.Path.{refl, ◌∙◌}
use Rattle.rules.specs.Signs.{square, open_signs}
use Rattle.signs.specs.ThreeBits.{three_bits, set_with}
use Rattle.signs.proofs.Remainder.{bits_of, square-remainder}
use Rattle.signs.proofs.Values.{at_one}
use Rattle.signs.proofs.SignSet.square.Statement.{statement}
use Rattle.signs.proofs.SignSet.square.Tie as tie

returns : tie.Need-returns
unfolding open_signs three_bits set_with
returns c =
    let m = c.before.before in
    let a = m.before.args.self.0 in
    c.set_of.ensures ∙ at_one square square-remainder a (λ x e So so. rw (bits_of a x m.bits-a.ensures e) at so) refl

pub square_spec : {M : Type 1} → statement M
square_spec = tie.close (tie.spec (λ c κs. search rules) (λ c κs. search rules) returns)
