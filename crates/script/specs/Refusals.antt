-- The numbers of the refusals: the reader's, then 24.
use Rattle.std.specs.Prelude.{◌≡◌, refl, ℕ, Result, Ok, Err}
use Rattle.std.proofs.Common.{sym, ap, arith}
use Rattle.block.specs.declared.Refusal.{Refusal as BlockRefusal}
use Rattle.block.specs.declared.Refusal.TheVariants.{InputUnderFiveBytes, UnknownEdition, LengthDiffers, CountNotAllowed, EndsInsideField, TermCount}
use Rattle.block.specs.declared.Refusal.TheVariants.{MagnitudeZero, ExponentsNotFalling, KindThree, PolynomialNumber, SameKindAbove, NestingAboveSix}
use Rattle.block.specs.declared.Refusal.TheVariants.{NodesDiffer, PaddingOrByteLeft, PairCountAboveN, VariablesNotRising, ExponentZero}
use Rattle.block.specs.Refusals as block
use Rattle.answer.specs.declared.Answer.{Answer as SomeAnswer}
use Rattle.answer.specs.declared.Refusal.{Refusal as AnswerRefusal}
use Rattle.answer.specs.declared.Refusal.TheVariants.{OutputShort, PlacesShort, Block}
use Rattle.answer.specs.Refusals as answer
use Rattle.script.specs.declared.Refusal.{Refusal}
use Rattle.script.specs.declared.Refusal.TheVariants.{Answer, TextShort}

abbrev pub number_of : Refusal → ℕ
number_of (Answer refusal) = answer.number_of refusal
number_of TextShort = 24

-- What is returned, by the refusal's number.
abbrev pub by_number : Result ℕ Refusal → Result ℕ ℕ
by_number (Ok size) = Ok size
by_number (Err refusal) = Err (number_of refusal)

-- ---- what is returned is told by that: no two refusals have one number

reader_not_24 : (refusal : BlockRefusal) → block.number_of refusal ≡ 24 → ⊥
reader_not_24 InputUnderFiveBytes e = omega arith
reader_not_24 UnknownEdition e = omega arith
reader_not_24 LengthDiffers e = omega arith
reader_not_24 CountNotAllowed e = omega arith
reader_not_24 EndsInsideField e = omega arith
reader_not_24 TermCount e = omega arith
reader_not_24 MagnitudeZero e = omega arith
reader_not_24 ExponentsNotFalling e = omega arith
reader_not_24 KindThree e = omega arith
reader_not_24 PolynomialNumber e = omega arith
reader_not_24 SameKindAbove e = omega arith
reader_not_24 NestingAboveSix e = omega arith
reader_not_24 NodesDiffer e = omega arith
reader_not_24 PaddingOrByteLeft e = omega arith
reader_not_24 PairCountAboveN e = omega arith
reader_not_24 VariablesNotRising e = omega arith
reader_not_24 ExponentZero e = omega arith

not_24 : (refusal : AnswerRefusal) → answer.number_of refusal ≡ 24 → ⊥
not_24 OutputShort e = omega arith
not_24 PlacesShort e = omega arith
not_24 (Block refusal) e = reader_not_24 refusal e

refusal_in : AnswerRefusal → Result SomeAnswer AnswerRefusal → AnswerRefusal
refusal_in none (Ok told) = none
refusal_in none (Err refusal) = refusal

same_answer : (refusal other : AnswerRefusal) → answer.number_of refusal ≡ answer.number_of other → refusal ≡ other
unfolding refusal_in
same_answer refusal other e = ap (refusal_in refusal) (answer.one_returned (Err refusal) (Err other) (ap Err e))

same_numbered : (refusal other : Refusal) → number_of refusal ≡ number_of other → refusal ≡ other
same_numbered (Answer refusal) (Answer other) e = ap Answer (same_answer refusal other e)
same_numbered (Answer refusal) TextShort e = absurd (not_24 refusal e)
same_numbered TextShort (Answer refusal) e = absurd (not_24 refusal (sym e))
same_numbered TextShort TextShort e = refl

value_in : ℕ → Result ℕ ℕ → ℕ
value_in none (Ok value) = value
value_in none (Err number) = none

number_in : ℕ → Result ℕ ℕ → ℕ
number_in none (Ok value) = none
number_in none (Err number) = number

is_ok_value : Result ℕ ℕ → ℕ
is_ok_value (Ok value) = 1
is_ok_value (Err number) = 0

pub one_returned : (returned other : Result ℕ Refusal) → by_number returned ≡ by_number other → returned ≡ other
unfolding value_in number_in is_ok_value
one_returned (Ok value) (Ok other) e = ap Ok (ap (value_in value) e)
one_returned (Ok value) (Err other) e = let z : ◌≡◌ {A = ℕ} 1 0 = ap is_ok_value e in absurd (omega arith)
one_returned (Err refusal) (Ok other) e = let z : ◌≡◌ {A = ℕ} 0 1 = ap is_ok_value e in absurd (omega arith)
one_returned (Err refusal) (Err other) e = ap Err (same_numbered refusal other (ap (number_in 0) e))
