-- What the entries for C give: a refusal's own number, below 256, or 65,536 more than the length of the finished block.
-- A block is shorter than 32,768 bytes, so that the lower 16 bits are its length.
use Rattle.std.specs.Prelude.{Bool, true, false, Result, Ok, Err, List, ◌≡◌, refl, ℕ, ◌+◌, ◌<◌, leb, length}
use Rattle.std.proofs.Common.{sym, ap, ◌∙◌, arith}
use Rattle.std.proofs.Math.Path.{subst}
use Rattle.rules.specs.Block.{Block, Edition, Reading, refused, read, read_block, write_block}
use Rattle.rules.specs.Convert.{Conversion, not_converted, converted, if_room_for, converted_to, convert, converted_into}
use Rattle.block_laws.specs.Sizes.{length-block, block-below-32768}
use Rattle.block_laws.specs.Blocks.{accepted-within}
use Rattle.convert.specs.declared.Refusal.{Refusal}
use Rattle.convert.specs.Refusals.{number_of, by_number}
use Rattle.convert.specs.Converted.{outcome_of, Converts}

unfoldable pub exported : Conversion → ℕ
exported (not_converted number) = number
exported (converted bytes) = 65536 + length bytes

abbrev pub ExportsConversion : Edition → List ℕ → List ℕ → List ℕ → ℕ → Type 0
ExportsConversion edition bytes before after r =
    let given = convert edition (length before) bytes in (r ≡ exported given) × (after ≡ converted_into given before)

-- ---- the same over what the converters return

abbrev number_told : Result ℕ ℕ → ℕ
number_told (Err number) = number
number_told (Ok size) = 65536 + size

abbrev pub number_in : Result ℕ Refusal → ℕ
number_in (Err refusal) = number_of refusal
number_in (Ok size) = 65536 + size

abbrev ShortTold : Result ℕ ℕ → Type 0
ShortTold (Err number) = Unit {0}
ShortTold (Ok size) = size < 32768

abbrev pub Short : Result ℕ Refusal → Type 0
Short (Err refusal) = Unit {0}
Short (Ok size) = size < 32768

number-by-number : (returned : Result ℕ Refusal) → number_in returned ≡ number_told (by_number returned)
number-by-number (Err refusal) = refl
number-by-number (Ok size) = refl

short-by-number : (returned : Result ℕ Refusal) → ShortTold (by_number returned) → Short returned
short-by-number (Err refusal) short = tt
short-by-number (Ok size) short = short

number-outcome : (given : Conversion) → number_told (outcome_of given) ≡ exported given
unfolding outcome_of exported
number-outcome (not_converted number) = refl
number-outcome (converted bytes) = refl

short-room : (room : Bool) (bytes : List ℕ) → length bytes < 32768 → ShortTold (outcome_of (if_room_for room bytes))
unfolding if_room_for outcome_of
short-room true bytes short = short
short-room false bytes short = tt

short-reading : (edition : Edition) (room : ℕ) (bytes : List ℕ) (reading : Reading Block) → read_block bytes ≡ reading
    → ShortTold (outcome_of (converted_to edition room reading))
unfolding converted_to outcome_of
short-reading edition room bytes (refused number) is = tt
short-reading edition room bytes (read block stream) is =
    short-room _ (write_block edition block)
    (omega (arith, length-block edition block, block-below-32768 edition block (accepted-within bytes is)))

module _ (edition : Edition) {bytes before after : List ℕ} {returned : Result ℕ Refusal} (told : Converts edition bytes before after returned) where
  pub short-returned : Short returned
  unfolding convert
  short-returned = short-by-number returned (subst ShortTold (sym told.returns) (short-reading edition (length before) bytes (read_block bytes) refl))

  pub number-returned : number_in returned ≡ exported (convert edition (length before) bytes)
  number-returned = number-by-number returned ∙ ap number_told told.returns ∙ number-outcome (convert edition (length before) bytes)
