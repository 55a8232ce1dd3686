-- `SignSet::mirror` meets its contract: the formula has the rule's eight values.
use borrow.Author.Rules.{rules}
use mathlib.Core.Path.{refl, ◌∙◌}
use Rattle.rules.specs.Signs.{mirror, open_signs}
use Rattle.signs.specs.ThreeBits.{three_bits, set_with}
use Rattle.signs.proofs.Remainder.{bits_of, mirror-remainder}
use Rattle.signs.proofs.Values.{at_one}
use Rattle.signs.proofs.SignSet.mirror.Statement.{statement}
use Rattle.signs.proofs.SignSet.mirror.Tie as tie

returns : tie.Need-returns
unfolding open_signs three_bits set_with
returns c =
    let m = c.before in
    let a = m.before.args.self.0 in
    c.set_of.ensures ∙ at_one mirror mirror-remainder a (λ x e So so. rw (bits_of a x m.bits-a.ensures e) at so) refl

pub mirror_spec : {M : Type 1} → statement M
mirror_spec = tie.close (tie.spec (λ c κs. search rules) (λ c κs. search rules) returns)
