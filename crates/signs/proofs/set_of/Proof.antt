-- `set_of` meets its contract: the three bits, each at its place.
use borrow.Author.Rules.{rules}
use mathlib.Core.Path.{◌≡◌, refl}
use mathlib.Core.Bool.{Bool, true, false}
use Prim.Native.Nat.{◌*◌, ◌%◌}
use lib.Bits.{bit_or}
use mir.Val.{bool_byte}
use Rattle.rules.specs.Signs.{bit}
use Rattle.signs.specs.ThreeBits.{set_with}
use Rattle.signs.proofs.set_of.Statement.{statement}
use Rattle.signs.proofs.set_of.Tie as tie

joined : (n z p : Bool) → bit_or (bit_or (bool_byte n * 4 % 256) (bool_byte z * 2 % 256)) (bool_byte p) ≡ set_with n z p
unfolding set_with bit
joined true true true = refl
joined true true false = refl
joined true false true = refl
joined true false false = refl
joined false true true = refl
joined false true false = refl
joined false false true = refl
joined false false false = refl

pub set_of_spec : {M : Type 1} → statement M
set_of_spec =
    tie.close (tie.spec (λ c. search rules) (λ c. search rules) (λ c. search rules) (λ c. joined c.args.negative c.args.zero c.args.positive))
