-- `SignSet::complement` meets its contract: the formula has the rule's eight values.
use borrow.Author.Rules.{rules}
use mathlib.Core.Path.{refl}
use Rattle.rules.specs.Signs.{complement, open_signs}
use Rattle.signs.proofs.Remainder.{complement-remainder}
use Rattle.signs.proofs.Values.{at_one}
use Rattle.signs.proofs.SignSet.complement.Statement.{statement}
use Rattle.signs.proofs.SignSet.complement.Tie as tie

returns : tie.Need-returns
unfolding open_signs
returns c = at_one complement complement-remainder c.before.args.self.0 (λ x e So so. rw e at so) refl

pub complement_spec : {M : Type 1} → statement M
complement_spec = tie.close (tie.spec (λ c. search rules) returns)
