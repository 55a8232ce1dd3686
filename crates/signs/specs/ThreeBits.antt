-- The three bits of a sign set by the names of their signs, as the formulas of the code take them.
use Rattle.std.specs.Prelude.{Bool, ◌+◌, ◌*◌}
use Rattle.rules.specs.Signs.{SignSet, negative, nought, positive, has, bit, some_sign}
use Rattle.signs.specs.declared.ThreeBits.{ThreeBits}

unfoldable pub three_bits : SignSet → ThreeBits
three_bits a = record { negative = has negative a; zero = has nought a; positive = has positive a; any = some_sign (λ s. has s a) }

-- the set with these signs
unfoldable pub set_with : Bool → Bool → Bool → SignSet
set_with below at_zero above = bit below * 4 + bit at_zero * 2 + bit above
