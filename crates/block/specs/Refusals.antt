-- The numbers of the refusals: 01, "Refusal numbers", 2 to 15, and 02, #109, 21 to 23. Each has a number of its own.
use Rattle.std.specs.Prelude.{◌≡◌, refl, ℕ, if◌then◌else◌, nat_eq}
use Rattle.std.proofs.Common.{sym, ap, ◌∙◌}
use Rattle.pairs.specs.declared.PairsFault.{PairsFault}
use Rattle.pairs.specs.declared.PairsFault.TheVariants.{NotRising, SomeZero}
use Rattle.block.specs.declared.Refusal.{Refusal}
use Rattle.block.specs.declared.Refusal.TheVariants.{InputUnderFiveBytes, UnknownEdition, LengthDiffers, CountNotAllowed, EndsInsideField, TermCount}
use Rattle.block.specs.declared.Refusal.TheVariants.{MagnitudeZero, ExponentsNotFalling, KindThree, PolynomialNumber, SameKindAbove, NestingAboveSix}
use Rattle.block.specs.declared.Refusal.TheVariants.{NodesDiffer, PaddingOrByteLeft, PairCountAboveN, VariablesNotRising, ExponentZero}

abbrev pub number_of : Refusal → ℕ
number_of InputUnderFiveBytes = 2
number_of UnknownEdition = 3
number_of LengthDiffers = 4
number_of CountNotAllowed = 5
number_of EndsInsideField = 6
number_of TermCount = 7
number_of MagnitudeZero = 8
number_of ExponentsNotFalling = 9
number_of KindThree = 10
number_of PolynomialNumber = 11
number_of SameKindAbove = 12
number_of NestingAboveSix = 13
number_of NodesDiffer = 14
number_of PaddingOrByteLeft = 15
number_of PairCountAboveN = 21
number_of VariablesNotRising = 22
number_of ExponentZero = 23

-- What is told of the pairs of a term, as a refusal.
abbrev pub refusal_by : PairsFault → Refusal
refusal_by NotRising = VariablesNotRising
refusal_by SomeZero = ExponentZero

-- The refusal of a number, of those that refusals have.
unfoldable refusal_numbered : ℕ → Refusal
refusal_numbered number =
    if nat_eq number 2 then InputUnderFiveBytes
    else (if nat_eq number 3 then UnknownEdition
    else (if nat_eq number 4 then LengthDiffers
    else (if nat_eq number 5 then CountNotAllowed
    else (if nat_eq number 6 then EndsInsideField
    else (if nat_eq number 7 then TermCount
    else (if nat_eq number 8 then MagnitudeZero
    else (if nat_eq number 9 then ExponentsNotFalling
    else (if nat_eq number 10 then KindThree
    else (if nat_eq number 11 then PolynomialNumber
    else (if nat_eq number 12 then SameKindAbove
    else (if nat_eq number 13 then NestingAboveSix
    else (if nat_eq number 14 then NodesDiffer
    else (if nat_eq number 15 then PaddingOrByteLeft
    else (if nat_eq number 21 then PairCountAboveN
    else (if nat_eq number 22 then VariablesNotRising
    else ExponentZero)))))))))))))))

numbered-again : (refusal : Refusal) → refusal_numbered (number_of refusal) ≡ refusal
unfolding refusal_numbered
numbered-again InputUnderFiveBytes = refl
numbered-again UnknownEdition = refl
numbered-again LengthDiffers = refl
numbered-again CountNotAllowed = refl
numbered-again EndsInsideField = refl
numbered-again TermCount = refl
numbered-again MagnitudeZero = refl
numbered-again ExponentsNotFalling = refl
numbered-again KindThree = refl
numbered-again PolynomialNumber = refl
numbered-again SameKindAbove = refl
numbered-again NestingAboveSix = refl
numbered-again NodesDiffer = refl
numbered-again PaddingOrByteLeft = refl
numbered-again PairCountAboveN = refl
numbered-again VariablesNotRising = refl
numbered-again ExponentZero = refl

-- Refusals of one number are the same.
pub same_refusal : (refusal other : Refusal) → number_of refusal ≡ number_of other → refusal ≡ other
same_refusal refusal other e = sym (numbered-again refusal) ∙ ap refusal_numbered e ∙ numbered-again other
