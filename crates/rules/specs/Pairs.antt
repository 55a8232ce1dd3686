-- 02, #109: a monomial in edition 2 is the list of its variables with exponent above 0, "pairs of variable number (4 bits, strictly rising, below n)
-- and exponent (4 bits, 1 to 15)". Variables are numbered from 0.
use Rattle.std.specs.Prelude.{Bool, true, ◌&&◌, List, [], ◌∷◌, ◌++◌, ℕ, zero, suc, ◌+◌, ◌-◌, ◌*◌, ◌^◌, leb, ltb, take, drop}
use Rattle.rules.specs.Polynomial.{exponent}
use Rattle.rules.specs.Bits.{field, value}

pub record Pair : Type 0 where
  pub variable : ℕ
  pub exponent : ℕ

-- ---- From the monomial to its pairs.

-- "variables with exponent above 0"
unfoldable pub pair_unless : ℕ → ℕ → List Pair → List Pair
pair_unless v zero later = later
pair_unless v (suc e) later = record { variable = v; exponent = suc e } ∷ later

-- The pairs of the last k of n variables.
unfoldable pub pairs_from : ℕ → ℕ → ℕ → List Pair
pairs_from n zero m = []
pairs_from n (suc k) m = let later = pairs_from n k m in pair_unless (n - suc k) (exponent m k) later

unfoldable pub pairs_of : ℕ → ℕ → List Pair
pairs_of n m = pairs_from n n m

unfoldable pub write_pairs : List Pair → List Bool
write_pairs [] = []
write_pairs (p ∷ ps) = field 4 p.variable ++ (field 4 p.exponent ++ write_pairs ps)

-- ---- From pairs to the monomial.

unfoldable pub read_pairs : ℕ → List Bool → List Pair
read_pairs zero bits = []
read_pairs (suc count) bits =
    record { variable = value (take 4 bits); exponent = value (take 4 (drop 4 bits)) } ∷ read_pairs count (drop 4 (drop 4 bits))

-- "strictly rising, below n": each number is below n and at least one more than the one before it.
unfoldable pub rising : ℕ → ℕ → List Pair → Bool
rising n least [] = true
rising n least (p ∷ ps) = leb least p.variable && ltb p.variable n && rising n (suc p.variable) ps

-- "exponent (1 to 15)"
unfoldable pub above_zero : List Pair → Bool
above_zero [] = true
above_zero (p ∷ ps) = ltb 0 p.exponent && above_zero ps

-- The exponents of all n variables as one number.
unfoldable pub monomial_of : ℕ → List Pair → ℕ
monomial_of n [] = 0
monomial_of n (p ∷ ps) = p.exponent * 16 ^ (n - suc p.variable) + monomial_of n ps

-- To unfold this is to unfold every definition of this file.
unfoldable pub open_pairs : Unit {0}
unfolding pair_unless pairs_from pairs_of write_pairs read_pairs rising above_zero monomial_of
open_pairs = tt
