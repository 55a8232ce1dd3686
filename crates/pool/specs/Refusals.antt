-- The numbers of the pool's refusals: the reader's, 1 if the pool is too short, then 26, 27 and 28. No two have one number, and none has 0.
use Rattle.std.specs.Prelude.{◌≡◌, refl, ℕ, ◌≤◌, Result, Ok, Err, ⊤}
use Rattle.std.proofs.Common.{ap, arith}
use Rattle.block.specs.declared.Refusal.{Refusal as BlockRefusal}
use Rattle.block.specs.declared.Refusal.TheVariants.{InputUnderFiveBytes, UnknownEdition, LengthDiffers, CountNotAllowed, EndsInsideField, TermCount}
use Rattle.block.specs.declared.Refusal.TheVariants.{MagnitudeZero, ExponentsNotFalling, KindThree, PolynomialNumber, SameKindAbove, NestingAboveSix}
use Rattle.block.specs.declared.Refusal.TheVariants.{NodesDiffer, PaddingOrByteLeft, PairCountAboveN, VariablesNotRising, ExponentZero}
use Rattle.block.specs.Refusals.{same_refusal}
use Rattle.block.specs.Refusals as block
use Rattle.pool.specs.declared.Refusal.{Refusal}
use Rattle.pool.specs.declared.Refusal.TheVariants.{Block, PoolShort, NumberNotAllowed, VariablesDiffer, Full}

abbrev pub number_of : Refusal → ℕ
number_of (Block refusal) = block.number_of refusal
number_of PoolShort = 1
number_of NumberNotAllowed = 26
number_of VariablesDiffer = 27
number_of Full = 28

-- What a call tells: 0 if it is done, else the refusal's number.
abbrev pub told : Result ⊤ Refusal → ℕ
told (Ok done) = 0
told (Err refusal) = number_of refusal

-- ---- what is returned is told by that: the reader's numbers lie between 1 and 26, and no two refusals have one number

record OfReader (number : ℕ) : Type 0 where
  pub above : 2 ≤ number
  pub below : number ≤ 23

of_reader : (refusal : BlockRefusal) → OfReader (block.number_of refusal)
of_reader InputUnderFiveBytes = record { above = omega arith; below = omega arith }
of_reader UnknownEdition = record { above = omega arith; below = omega arith }
of_reader LengthDiffers = record { above = omega arith; below = omega arith }
of_reader CountNotAllowed = record { above = omega arith; below = omega arith }
of_reader EndsInsideField = record { above = omega arith; below = omega arith }
of_reader TermCount = record { above = omega arith; below = omega arith }
of_reader MagnitudeZero = record { above = omega arith; below = omega arith }
of_reader ExponentsNotFalling = record { above = omega arith; below = omega arith }
of_reader KindThree = record { above = omega arith; below = omega arith }
of_reader PolynomialNumber = record { above = omega arith; below = omega arith }
of_reader SameKindAbove = record { above = omega arith; below = omega arith }
of_reader NestingAboveSix = record { above = omega arith; below = omega arith }
of_reader NodesDiffer = record { above = omega arith; below = omega arith }
of_reader PaddingOrByteLeft = record { above = omega arith; below = omega arith }
of_reader PairCountAboveN = record { above = omega arith; below = omega arith }
of_reader VariablesNotRising = record { above = omega arith; below = omega arith }
of_reader ExponentZero = record { above = omega arith; below = omega arith }

same_numbered : (refusal other : Refusal) → number_of refusal ≡ number_of other → refusal ≡ other
same_numbered (Block refusal) (Block other) e = ap Block (same_refusal refusal other e)
same_numbered (Block refusal) PoolShort e = let r = of_reader refusal in absurd (omega (arith, e, r.above))
same_numbered (Block refusal) NumberNotAllowed e = let r = of_reader refusal in absurd (omega (arith, e, r.below))
same_numbered (Block refusal) VariablesDiffer e = let r = of_reader refusal in absurd (omega (arith, e, r.below))
same_numbered (Block refusal) Full e = let r = of_reader refusal in absurd (omega (arith, e, r.below))
same_numbered PoolShort (Block refusal) e = let r = of_reader refusal in absurd (omega (arith, e, r.above))
same_numbered NumberNotAllowed (Block refusal) e = let r = of_reader refusal in absurd (omega (arith, e, r.below))
same_numbered VariablesDiffer (Block refusal) e = let r = of_reader refusal in absurd (omega (arith, e, r.below))
same_numbered Full (Block refusal) e = let r = of_reader refusal in absurd (omega (arith, e, r.below))
same_numbered PoolShort PoolShort e = refl
same_numbered PoolShort NumberNotAllowed e = absurd (omega (arith, e))
same_numbered PoolShort VariablesDiffer e = absurd (omega (arith, e))
same_numbered PoolShort Full e = absurd (omega (arith, e))
same_numbered NumberNotAllowed PoolShort e = absurd (omega (arith, e))
same_numbered NumberNotAllowed NumberNotAllowed e = refl
same_numbered NumberNotAllowed VariablesDiffer e = absurd (omega (arith, e))
same_numbered NumberNotAllowed Full e = absurd (omega (arith, e))
same_numbered VariablesDiffer PoolShort e = absurd (omega (arith, e))
same_numbered VariablesDiffer NumberNotAllowed e = absurd (omega (arith, e))
same_numbered VariablesDiffer VariablesDiffer e = refl
same_numbered VariablesDiffer Full e = absurd (omega (arith, e))
same_numbered Full PoolShort e = absurd (omega (arith, e))
same_numbered Full NumberNotAllowed e = absurd (omega (arith, e))
same_numbered Full VariablesDiffer e = absurd (omega (arith, e))
same_numbered Full Full e = refl

some_number : (refusal : Refusal) → 1 ≤ number_of refusal
some_number (Block refusal) = let r = of_reader refusal in omega (arith, r.above)
some_number PoolShort = omega arith
some_number NumberNotAllowed = omega arith
some_number VariablesDiffer = omega arith
some_number Full = omega arith

pub one_returned : (returned other : Result ⊤ Refusal) → told returned ≡ told other → returned ≡ other
one_returned (Ok done) (Ok other) e = refl
one_returned (Ok done) (Err other) e = absurd (omega (arith, e, some_number other))
one_returned (Err refusal) (Ok done) e = absurd (omega (arith, e, some_number refusal))
one_returned (Err refusal) (Err other) e = ap Err (same_numbered refusal other e)
