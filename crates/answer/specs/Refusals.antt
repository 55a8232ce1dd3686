-- The numbers of the refusals: 1 and 18, tried first, then the reader's. Each refusal has a number of its own.
use Rattle.std.specs.Prelude.{◌≡◌, refl, ℕ, Result, Ok, Err}
use Rattle.std.proofs.Common.{sym, ap, arith}
use Rattle.block.specs.declared.Refusal.{Refusal as BlockRefusal}
use Rattle.block.specs.declared.Refusal.TheVariants.{InputUnderFiveBytes, UnknownEdition, LengthDiffers, CountNotAllowed, EndsInsideField, TermCount}
use Rattle.block.specs.declared.Refusal.TheVariants.{MagnitudeZero, ExponentsNotFalling, KindThree, PolynomialNumber, SameKindAbove, NestingAboveSix}
use Rattle.block.specs.declared.Refusal.TheVariants.{NodesDiffer, PaddingOrByteLeft, PairCountAboveN, VariablesNotRising, ExponentZero}
use Rattle.block.specs.Refusals as block
use Rattle.block.specs.Refusals.{same_refusal}
use Rattle.answer.specs.declared.Answer.{Answer}
use Rattle.answer.specs.declared.Refusal.{Refusal}
use Rattle.answer.specs.declared.Refusal.TheVariants.{OutputShort, PlacesShort, Block}

abbrev pub number_of : Refusal → ℕ
number_of OutputShort = 1
number_of PlacesShort = 18
number_of (Block refusal) = block.number_of refusal

-- What is returned, by the refusal's number.
abbrev pub by_number : Result Answer Refusal → Result Answer ℕ
by_number (Ok answer) = Ok answer
by_number (Err refusal) = Err (number_of refusal)

-- ---- what is returned is told by that: no two refusals have one number

-- The reader has neither 1 nor 18.
record OfReader (number : ℕ) : Type 0 where
  pub not_1 : number ≡ 1 → ⊥
  pub not_18 : number ≡ 18 → ⊥

of_reader : (refusal : BlockRefusal) → OfReader (block.number_of refusal)
of_reader InputUnderFiveBytes = record { not_1 = λ e. omega arith; not_18 = λ e. omega arith }
of_reader UnknownEdition = record { not_1 = λ e. omega arith; not_18 = λ e. omega arith }
of_reader LengthDiffers = record { not_1 = λ e. omega arith; not_18 = λ e. omega arith }
of_reader CountNotAllowed = record { not_1 = λ e. omega arith; not_18 = λ e. omega arith }
of_reader EndsInsideField = record { not_1 = λ e. omega arith; not_18 = λ e. omega arith }
of_reader TermCount = record { not_1 = λ e. omega arith; not_18 = λ e. omega arith }
of_reader MagnitudeZero = record { not_1 = λ e. omega arith; not_18 = λ e. omega arith }
of_reader ExponentsNotFalling = record { not_1 = λ e. omega arith; not_18 = λ e. omega arith }
of_reader KindThree = record { not_1 = λ e. omega arith; not_18 = λ e. omega arith }
of_reader PolynomialNumber = record { not_1 = λ e. omega arith; not_18 = λ e. omega arith }
of_reader SameKindAbove = record { not_1 = λ e. omega arith; not_18 = λ e. omega arith }
of_reader NestingAboveSix = record { not_1 = λ e. omega arith; not_18 = λ e. omega arith }
of_reader NodesDiffer = record { not_1 = λ e. omega arith; not_18 = λ e. omega arith }
of_reader PaddingOrByteLeft = record { not_1 = λ e. omega arith; not_18 = λ e. omega arith }
of_reader PairCountAboveN = record { not_1 = λ e. omega arith; not_18 = λ e. omega arith }
of_reader VariablesNotRising = record { not_1 = λ e. omega arith; not_18 = λ e. omega arith }
of_reader ExponentZero = record { not_1 = λ e. omega arith; not_18 = λ e. omega arith }

same_numbered : (refusal other : Refusal) → number_of refusal ≡ number_of other → refusal ≡ other
same_numbered OutputShort OutputShort e = refl
same_numbered OutputShort PlacesShort e = absurd (omega arith)
same_numbered OutputShort (Block refusal) e = absurd ((of_reader refusal).not_1 (sym e))
same_numbered PlacesShort OutputShort e = absurd (omega arith)
same_numbered PlacesShort PlacesShort e = refl
same_numbered PlacesShort (Block refusal) e = absurd ((of_reader refusal).not_18 (sym e))
same_numbered (Block refusal) OutputShort e = absurd ((of_reader refusal).not_1 e)
same_numbered (Block refusal) PlacesShort e = absurd ((of_reader refusal).not_18 e)
same_numbered (Block refusal) (Block other) e = ap Block (same_refusal refusal other e)

-- The value that an answer or a number is.
answer_in : Answer → Result Answer ℕ → Answer
answer_in none (Ok answer) = answer
answer_in none (Err number) = none

number_told : Result Answer ℕ → ℕ
number_told (Ok answer) = 0
number_told (Err number) = number

is_answer : Result Answer ℕ → ℕ
is_answer (Ok answer) = 1
is_answer (Err number) = 0

pub one_returned : (returned other : Result Answer Refusal) → by_number returned ≡ by_number other → returned ≡ other
unfolding answer_in number_told is_answer
one_returned (Ok answer) (Ok other) e = ap Ok (ap (answer_in answer) e)
one_returned (Ok answer) (Err other) e = let z : ◌≡◌ {A = ℕ} 1 0 = ap is_answer e in absurd (omega arith)
one_returned (Err refusal) (Ok other) e = let z : ◌≡◌ {A = ℕ} 0 1 = ap is_answer e in absurd (omega arith)
one_returned (Err refusal) (Err other) e = ap Err (same_numbered refusal other (ap number_told e))
