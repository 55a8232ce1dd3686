-- The pairs that stand in a run of bytes, where they are inside it, and what is told of them.
use Rattle.std.specs.Prelude.{Result, Ok, Err, Bool, true, false, List, ℕ, ◌+◌, ◌*◌, ◌^◌, ◌≤◌, ◌<◌, length, drop}
use Rattle.rules.specs.Bits.{unpack}
use Rattle.rules.specs.Pairs.{Pair, read_pairs, rising, above_zero, monomial_of}
use Rattle.pairs.specs.declared.PairsFault.{PairsFault}
use Rattle.pairs.specs.declared.PairsFault.TheVariants.{NotRising, SomeZero}

-- So many pairs from a bit on.
abbrev pub pairs_at : List ℕ → ℕ → ℕ → List Pair
pairs_at bytes at count = read_pairs count (drop at (unpack bytes))

-- Their bits are in the input, whose length a field of 16 bits can give.
pub record PairsInside (bytes : List ℕ) (at count : ℕ) : Type 0 where
  pub at_most : at + 8 * count ≤ 8 * length bytes
  pub short : length bytes < 2 ^ 16

-- "22, 23", in this order: by whether the numbers rise, whether each exponent is above 0, and the exponents as one number.
unfoldable pub told_of : Bool → Bool → ℕ → Result ℕ PairsFault
told_of false above exponents = Err NotRising
told_of true false exponents = Err SomeZero
told_of true true exponents = Ok exponents

abbrev pub pairs_told : ℕ → List Pair → Result ℕ PairsFault
pairs_told n pairs = told_of (rising n 0 pairs) (above_zero pairs) (monomial_of n pairs)
