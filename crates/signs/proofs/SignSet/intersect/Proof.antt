-- `SignSet::intersect` meets its contract: the formula has the rule's 64 values.
use mathlib.Core.Path.{refl}
use Rattle.rules.specs.Signs.{intersect, open_signs}
use Rattle.signs.proofs.Remainder.{intersect-remainder}
use Rattle.signs.proofs.Values.{at-two}
use Rattle.signs.proofs.SignSet.intersect.Statement.{statement}
use Rattle.signs.proofs.SignSet.intersect.Tie as tie

returns : tie.Need-returns
unfolding open_signs
returns c = let s = c.before.before.args in at-two intersect intersect-remainder s.self.0 s.other.0 (λ x y e d So so. rw (e, d) at so) refl

pub intersect_spec : {M : Type 1} → statement M
intersect_spec = tie.close (tie.spec returns)
