-- The number and the position of a refusal: 25 where the text stopped, else the converter's at position 0.
use Rattle.std.specs.Prelude.{◌≡◌, refl, ℕ, Result, Ok, Err}
use Rattle.std.proofs.Common.{sym, ap, arith}
use Rattle.convert.specs.declared.Refusal.{Refusal as ConvertRefusal}
use Rattle.block.specs.declared.Refusal.{Refusal as BlockRefusal}
use Rattle.block.specs.declared.Refusal.TheVariants.{InputUnderFiveBytes, UnknownEdition, LengthDiffers, CountNotAllowed, EndsInsideField, TermCount}
use Rattle.block.specs.declared.Refusal.TheVariants.{MagnitudeZero, ExponentsNotFalling, KindThree, PolynomialNumber, SameKindAbove, NestingAboveSix}
use Rattle.block.specs.declared.Refusal.TheVariants.{NodesDiffer, PaddingOrByteLeft, PairCountAboveN, VariablesNotRising, ExponentZero}
use Rattle.block.specs.Refusals as block
use Rattle.convert.specs.declared.Refusal.TheVariants.{OutputShort, Block}
use Rattle.convert.specs.Refusals as convert
use Rattle.script_polynomial.specs.declared.Stop.{Stop}
use Rattle.script_back.specs.declared.Refusal.{Refusal}
use Rattle.script_back.specs.declared.Refusal.TheVariants.{Stopped, NotFinished}

abbrev pub number_of : Refusal → ℕ
number_of (Stopped stop) = 25
number_of (NotFinished refusal) = convert.number_of refusal

abbrev pub position_of : Refusal → ℕ
position_of (Stopped stop) = stop.at
position_of (NotFinished refusal) = 0

-- What is returned, by the refusal's number and its position.
abbrev pub by_number : Result ℕ Refusal → Result ℕ (ℕ × ℕ)
by_number (Ok size) = Ok size
by_number (Err refusal) = Err (number_of refusal, position_of refusal)

-- What the converter returns, as a refusal of this reader.
abbrev pub passed_on : Result ℕ ConvertRefusal → Result ℕ Refusal
passed_on (Ok size) = Ok size
passed_on (Err refusal) = Err (NotFinished refusal)

-- The same of a number: the text was read, so it stopped nowhere.
abbrev pub told : Result ℕ ℕ → Result ℕ (ℕ × ℕ)
told (Ok size) = Ok size
told (Err number) = Err (number, 0)

-- ---- what is returned is told by that: no two refusals have one number and one position

reader_not_25 : (refusal : BlockRefusal) → block.number_of refusal ≡ 25 → ⊥
reader_not_25 InputUnderFiveBytes e = omega arith
reader_not_25 UnknownEdition e = omega arith
reader_not_25 LengthDiffers e = omega arith
reader_not_25 CountNotAllowed e = omega arith
reader_not_25 EndsInsideField e = omega arith
reader_not_25 TermCount e = omega arith
reader_not_25 MagnitudeZero e = omega arith
reader_not_25 ExponentsNotFalling e = omega arith
reader_not_25 KindThree e = omega arith
reader_not_25 PolynomialNumber e = omega arith
reader_not_25 SameKindAbove e = omega arith
reader_not_25 NestingAboveSix e = omega arith
reader_not_25 NodesDiffer e = omega arith
reader_not_25 PaddingOrByteLeft e = omega arith
reader_not_25 PairCountAboveN e = omega arith
reader_not_25 VariablesNotRising e = omega arith
reader_not_25 ExponentZero e = omega arith

not_25 : (refusal : ConvertRefusal) → convert.number_of refusal ≡ 25 → ⊥
not_25 OutputShort e = omega arith
not_25 (Block refusal) e = reader_not_25 refusal e

refusal_in : ConvertRefusal → Result ℕ ConvertRefusal → ConvertRefusal
refusal_in none (Ok size) = none
refusal_in none (Err refusal) = refusal

same_converted : (refusal other : ConvertRefusal) → convert.number_of refusal ≡ convert.number_of other → refusal ≡ other
unfolding refusal_in
same_converted refusal other e = ap (refusal_in refusal) (convert.one_returned (Err refusal) (Err other) (ap Err e))

stop_of : ℕ → Stop
stop_of at = record { at = at }

same_told : (refusal other : Refusal) → number_of refusal ≡ number_of other → position_of refusal ≡ position_of other → refusal ≡ other
unfolding stop_of
same_told (Stopped stop) (Stopped other) e f = ap (λ (at : ℕ). Stopped (stop_of at)) f
same_told (Stopped stop) (NotFinished refusal) e f = absurd (not_25 refusal (sym e))
same_told (NotFinished refusal) (Stopped stop) e f = absurd (not_25 refusal e)
same_told (NotFinished refusal) (NotFinished other) e f = ap NotFinished (same_converted refusal other e)

value_in : ℕ → Result ℕ (ℕ × ℕ) → ℕ
value_in none (Ok value) = value
value_in none (Err number) = none

number_in : (ℕ × ℕ) → Result ℕ (ℕ × ℕ) → (ℕ × ℕ)
number_in none (Ok value) = none
number_in none (Err number) = number

is_ok_value : Result ℕ (ℕ × ℕ) → ℕ
is_ok_value (Ok value) = 1
is_ok_value (Err number) = 0

pub one_returned : (returned other : Result ℕ Refusal) → by_number returned ≡ by_number other → returned ≡ other
unfolding value_in number_in is_ok_value
one_returned (Ok value) (Ok other) e = ap Ok (ap (value_in value) e)
one_returned (Ok value) (Err other) e = let z : ◌≡◌ {A = ℕ} 1 0 = ap is_ok_value e in absurd (omega arith)
one_returned (Err refusal) (Ok other) e = let z : ◌≡◌ {A = ℕ} 0 1 = ap is_ok_value e in absurd (omega arith)
one_returned (Err refusal) (Err other) e =
    let told : ◌≡◌ {A = ℕ × ℕ} (number_of refusal, position_of refusal) (number_of other, position_of other) = ap (number_in (0, 0)) e in
    ap Err (same_told refusal other (ap (λ (p : ℕ × ℕ). p.0) told) (ap (λ (p : ℕ × ℕ). p.1) told))
