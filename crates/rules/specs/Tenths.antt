-- Request #101, readings in tenths: a radius of 12.5 m is 125 over 10. What the definitions give there, that the power of the denominator changes no
-- sign, and what the two words of a verdict promise.
use Rattle.std.specs.Prelude.{◌≡◌, refl, true, false, List, [], ◌∷◌, map, ℕ, zero, suc, ◌+◌, ◌*◌, ◌<◌, ℤ, pos, negsuc, ◌*ℤ◌}
use Rattle.std.proofs.Common.{ap, ◌∙◌, arith}
use Rattle.std.proofs.Math.IntN.{pow, one}
use Rattle.rules.specs.Signs.{Sign, nought, negative, positive, sign_of}
use Rattle.rules.specs.Polynomial.{Term, Polynomial, exponent}
use Rattle.rules.specs.Block.{Block, Stream, read}
use Rattle.rules.specs.Answer.{Counts, answered, always, unsatisfiable, formula_of}
use Rattle.rules.specs.Meaning.{Choice, monomial_at, value_by, degree, total_degree, monomial_over, sign_over, holds_over}
use Rattle.rules.specs.Demands.{SameLifts}

-- ---- A radius of 12.5 m and a load of 3.6 t, as 125 and 36 over 10.

-- Terms in the radius and the load, in that order of the variables.
abbrev term : ℤ → ℕ → Term
term c m = record { coefficient = c; monomial = m }

-- 2 radius - 25, which is 0
abbrev pub twice_radius : Polynomial
twice_radius = term (pos 2) 0x10 ∷ term (negsuc 24) 0x00 ∷ []

-- radius · load - 45, which is 0
abbrev pub moment : Polynomial
moment = term (pos 1) 0x11 ∷ term (negsuc 44) 0x00 ∷ []

-- 2 radius + load² - 38, which is -0.04
abbrev pub three_degrees : Polynomial
three_degrees = term (pos 2) 0x10 ∷ term (pos 1) 0x02 ∷ term (negsuc 37) 0x00 ∷ []
