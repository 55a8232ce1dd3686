-- The numbers of the refusals: the reader's, then 19 and 20.
use Rattle.std.specs.Prelude.{◌≡◌, refl, ℕ, Result, Ok, Err}
use Rattle.std.proofs.Common.{sym, ap, arith}
use Rattle.block.specs.declared.Refusal.{Refusal as BlockRefusal}
use Rattle.block.specs.declared.Refusal.TheVariants.{InputUnderFiveBytes, UnknownEdition, LengthDiffers, CountNotAllowed, EndsInsideField, TermCount}
use Rattle.block.specs.declared.Refusal.TheVariants.{MagnitudeZero, ExponentsNotFalling, KindThree, PolynomialNumber, SameKindAbove, NestingAboveSix}
use Rattle.block.specs.declared.Refusal.TheVariants.{NodesDiffer, PaddingOrByteLeft, PairCountAboveN, VariablesNotRising, ExponentZero}
use Rattle.block.specs.Refusals.{same_refusal}
use Rattle.block.specs.Refusals as block
use Rattle.why.specs.declared.Refusal.{Refusal}
use Rattle.why.specs.declared.Refusal.TheVariants.{Block, NotAndOfAtoms, RecordsShort}

abbrev pub number_of : Refusal → ℕ
number_of (Block refusal) = block.number_of refusal
number_of NotAndOfAtoms = 19
number_of RecordsShort = 20

-- What is returned, by the refusal's number.
abbrev pub by_number : Result ℕ Refusal → Result ℕ ℕ
by_number (Ok count) = Ok count
by_number (Err refusal) = Err (number_of refusal)

-- ---- what is returned is told by that: no two refusals have one number

record OfReader (number : ℕ) : Type 0 where
  pub not_19 : number ≡ 19 → ⊥
  pub not_20 : number ≡ 20 → ⊥

of_reader : (refusal : BlockRefusal) → OfReader (block.number_of refusal)
of_reader InputUnderFiveBytes = record { not_19 = λ e. omega arith; not_20 = λ e. omega arith }
of_reader UnknownEdition = record { not_19 = λ e. omega arith; not_20 = λ e. omega arith }
of_reader LengthDiffers = record { not_19 = λ e. omega arith; not_20 = λ e. omega arith }
of_reader CountNotAllowed = record { not_19 = λ e. omega arith; not_20 = λ e. omega arith }
of_reader EndsInsideField = record { not_19 = λ e. omega arith; not_20 = λ e. omega arith }
of_reader TermCount = record { not_19 = λ e. omega arith; not_20 = λ e. omega arith }
of_reader MagnitudeZero = record { not_19 = λ e. omega arith; not_20 = λ e. omega arith }
of_reader ExponentsNotFalling = record { not_19 = λ e. omega arith; not_20 = λ e. omega arith }
of_reader KindThree = record { not_19 = λ e. omega arith; not_20 = λ e. omega arith }
of_reader PolynomialNumber = record { not_19 = λ e. omega arith; not_20 = λ e. omega arith }
of_reader SameKindAbove = record { not_19 = λ e. omega arith; not_20 = λ e. omega arith }
of_reader NestingAboveSix = record { not_19 = λ e. omega arith; not_20 = λ e. omega arith }
of_reader NodesDiffer = record { not_19 = λ e. omega arith; not_20 = λ e. omega arith }
of_reader PaddingOrByteLeft = record { not_19 = λ e. omega arith; not_20 = λ e. omega arith }
of_reader PairCountAboveN = record { not_19 = λ e. omega arith; not_20 = λ e. omega arith }
of_reader VariablesNotRising = record { not_19 = λ e. omega arith; not_20 = λ e. omega arith }
of_reader ExponentZero = record { not_19 = λ e. omega arith; not_20 = λ e. omega arith }

same_numbered : (refusal other : Refusal) → number_of refusal ≡ number_of other → refusal ≡ other
same_numbered NotAndOfAtoms NotAndOfAtoms e = refl
same_numbered NotAndOfAtoms RecordsShort e = absurd (omega arith)
same_numbered NotAndOfAtoms (Block refusal) e = absurd ((of_reader refusal).not_19 (sym e))
same_numbered RecordsShort NotAndOfAtoms e = absurd (omega arith)
same_numbered RecordsShort RecordsShort e = refl
same_numbered RecordsShort (Block refusal) e = absurd ((of_reader refusal).not_20 (sym e))
same_numbered (Block refusal) NotAndOfAtoms e = absurd ((of_reader refusal).not_19 e)
same_numbered (Block refusal) RecordsShort e = absurd ((of_reader refusal).not_20 e)
same_numbered (Block refusal) (Block other) e = ap Block (same_refusal refusal other e)

value_in : ℕ → Result ℕ ℕ → ℕ
value_in none (Ok value) = value
value_in none (Err number) = none

number_in : Result ℕ ℕ → ℕ
number_in (Ok value) = 0
number_in (Err number) = number

is_ok_value : Result ℕ ℕ → ℕ
is_ok_value (Ok value) = 1
is_ok_value (Err number) = 0

pub one_returned : (returned other : Result ℕ Refusal) → by_number returned ≡ by_number other → returned ≡ other
unfolding value_in number_in is_ok_value
one_returned (Ok value) (Ok other) e = ap Ok (ap (value_in value) e)
one_returned (Ok value) (Err other) e = let z : ◌≡◌ {A = ℕ} 1 0 = ap is_ok_value e in absurd (omega arith)
one_returned (Err refusal) (Ok other) e = let z : ◌≡◌ {A = ℕ} 0 1 = ap is_ok_value e in absurd (omega arith)
one_returned (Err refusal) (Err other) e = ap Err (same_numbered refusal other (ap number_in e))
