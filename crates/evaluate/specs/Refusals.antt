-- The numbers of the evaluator's refusals: the reader's, then 16 and 17.
use Rattle.std.specs.Prelude.{◌≡◌, refl, ℕ, Result, Ok, Err}
use Rattle.std.proofs.Common.{sym, ap, arith}
use Rattle.block.specs.declared.Refusal.{Refusal as BlockRefusal}
use Rattle.block.specs.declared.Refusal.TheVariants.{InputUnderFiveBytes, UnknownEdition, LengthDiffers, CountNotAllowed, EndsInsideField, TermCount}
use Rattle.block.specs.declared.Refusal.TheVariants.{MagnitudeZero, ExponentsNotFalling, KindThree, PolynomialNumber, SameKindAbove, NestingAboveSix}
use Rattle.block.specs.declared.Refusal.TheVariants.{NodesDiffer, PaddingOrByteLeft, PairCountAboveN, VariablesNotRising, ExponentZero}
use Rattle.block.specs.Refusals.{same_refusal}
use Rattle.block.specs.Refusals as block
use Rattle.evaluate.specs.declared.Verdict.{Verdict}
use Rattle.evaluate.specs.declared.Refusal.{Refusal}
use Rattle.evaluate.specs.declared.Refusal.TheVariants.{Block, ReadingsCount, Overflow}

abbrev pub number_of : Refusal → ℕ
number_of (Block refusal) = block.number_of refusal
number_of ReadingsCount = 16
number_of Overflow = 17

-- What is returned, by the refusal's number.
abbrev pub by_number : Result Verdict Refusal → Result Verdict ℕ
by_number (Ok verdict) = Ok verdict
by_number (Err refusal) = Err (number_of refusal)

-- ---- what is returned is told by that: no two refusals have one number

record OfReader (number : ℕ) : Type 0 where
  pub not_16 : number ≡ 16 → ⊥
  pub not_17 : number ≡ 17 → ⊥

of_reader : (refusal : BlockRefusal) → OfReader (block.number_of refusal)
of_reader InputUnderFiveBytes = record { not_16 = λ e. omega arith; not_17 = λ e. omega arith }
of_reader UnknownEdition = record { not_16 = λ e. omega arith; not_17 = λ e. omega arith }
of_reader LengthDiffers = record { not_16 = λ e. omega arith; not_17 = λ e. omega arith }
of_reader CountNotAllowed = record { not_16 = λ e. omega arith; not_17 = λ e. omega arith }
of_reader EndsInsideField = record { not_16 = λ e. omega arith; not_17 = λ e. omega arith }
of_reader TermCount = record { not_16 = λ e. omega arith; not_17 = λ e. omega arith }
of_reader MagnitudeZero = record { not_16 = λ e. omega arith; not_17 = λ e. omega arith }
of_reader ExponentsNotFalling = record { not_16 = λ e. omega arith; not_17 = λ e. omega arith }
of_reader KindThree = record { not_16 = λ e. omega arith; not_17 = λ e. omega arith }
of_reader PolynomialNumber = record { not_16 = λ e. omega arith; not_17 = λ e. omega arith }
of_reader SameKindAbove = record { not_16 = λ e. omega arith; not_17 = λ e. omega arith }
of_reader NestingAboveSix = record { not_16 = λ e. omega arith; not_17 = λ e. omega arith }
of_reader NodesDiffer = record { not_16 = λ e. omega arith; not_17 = λ e. omega arith }
of_reader PaddingOrByteLeft = record { not_16 = λ e. omega arith; not_17 = λ e. omega arith }
of_reader PairCountAboveN = record { not_16 = λ e. omega arith; not_17 = λ e. omega arith }
of_reader VariablesNotRising = record { not_16 = λ e. omega arith; not_17 = λ e. omega arith }
of_reader ExponentZero = record { not_16 = λ e. omega arith; not_17 = λ e. omega arith }

same_numbered : (refusal other : Refusal) → number_of refusal ≡ number_of other → refusal ≡ other
same_numbered ReadingsCount ReadingsCount e = refl
same_numbered ReadingsCount Overflow e = absurd (omega arith)
same_numbered ReadingsCount (Block refusal) e = absurd ((of_reader refusal).not_16 (sym e))
same_numbered Overflow ReadingsCount e = absurd (omega arith)
same_numbered Overflow Overflow e = refl
same_numbered Overflow (Block refusal) e = absurd ((of_reader refusal).not_17 (sym e))
same_numbered (Block refusal) ReadingsCount e = absurd ((of_reader refusal).not_16 e)
same_numbered (Block refusal) Overflow e = absurd ((of_reader refusal).not_17 e)
same_numbered (Block refusal) (Block other) e = ap Block (same_refusal refusal other e)

value_in : Verdict → Result Verdict ℕ → Verdict
value_in none (Ok value) = value
value_in none (Err number) = none

number_in : Result Verdict ℕ → ℕ
number_in (Ok value) = 0
number_in (Err number) = number

is_ok_value : Result Verdict ℕ → ℕ
is_ok_value (Ok value) = 1
is_ok_value (Err number) = 0

pub one_returned : (returned other : Result Verdict Refusal) → by_number returned ≡ by_number other → returned ≡ other
unfolding value_in number_in is_ok_value
one_returned (Ok value) (Ok other) e = ap Ok (ap (value_in value) e)
one_returned (Ok value) (Err other) e = let z : ◌≡◌ {A = ℕ} 1 0 = ap is_ok_value e in absurd (omega arith)
one_returned (Err refusal) (Ok other) e = let z : ◌≡◌ {A = ℕ} 0 1 = ap is_ok_value e in absurd (omega arith)
one_returned (Err refusal) (Err other) e = ap Err (same_numbered refusal other (ap number_in e))
