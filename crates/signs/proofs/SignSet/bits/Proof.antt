-- `SignSet::bits` meets its contract: at the eight sets the bits are the rule's.
use mathlib.Core.Path.{refl}
use Rattle.rules.specs.Signs.{open_signs}
use Rattle.signs.specs.ThreeBits.{three_bits}
use Rattle.signs.proofs.Remainder.{bits-remainder}
use Rattle.signs.proofs.Values.{at_one}
use Rattle.signs.proofs.SignSet.bits.Statement.{statement}
use Rattle.signs.proofs.SignSet.bits.Tie as tie

returns : tie.Need-returns
unfolding open_signs three_bits
returns c = at_one three_bits bits-remainder c.before.args.self.0 (λ x e So so. rw e at so) refl

pub bits_spec : {M : Type 1} → statement M
bits_spec = tie.close (tie.spec returns)
