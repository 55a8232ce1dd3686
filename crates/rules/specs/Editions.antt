-- 02, #109: blocks of edition 2 on which readers could differ, with the number that refuses each, or none; and case A in edition 2: its bytes,
-- what the simplifier answers, and the way back.
use Rattle.std.specs.Prelude.{◌≡◌, refl, List, [], ◌∷◌, map, ℕ}
use Rattle.std.proofs.Math.Option.{Option, none, some}
use Rattle.rules.specs.Signs.{open_signs}
use Rattle.rules.specs.Polynomial.{open_polynomial}
use Rattle.rules.specs.Deduce.{open_deduce}
use Rattle.rules.specs.TwoAtoms.{open_two_atoms}
use Rattle.rules.specs.Rounds.{open_rounds}
use Rattle.rules.specs.Formula.{open_formula}
use Rattle.rules.specs.Level.{open_level}
use Rattle.rules.specs.Bits.{open_bits}
use Rattle.rules.specs.Pairs.{open_pairs}
use Rattle.rules.specs.Block.{Block, edition1, edition2, Reading, refused, read, read_block, open_block}
use Rattle.rules.specs.Answer.{answered, formula, answer, open_answer}
use Rattle.rules.specs.Convert.{not_converted, converted, convert, open_convert}
use Rattle.rules.specs.Cases.{case_a}

unfoldable pub refusal_of : Reading Block → Option ℕ
refusal_of (refused number) = some number
refusal_of (read block stream) = none

pub record Example : Type 0 where
  pub bytes : List ℕ
  pub gives : Option ℕ

unfoldable pub examples : List Example
examples =
    -- the first exponent is 0 and the second number is not above the first: 22 is tried before 23
    record { bytes = 0x21 ∷ 0x01 ∷ 0x01 ∷ 0x00 ∷ 0x0e ∷ 0x08 ∷ 0x00 ∷ 0x00 ∷ 0x00 ∷ 0x08 ∷ 0x80 ∷ 0x00 ∷ 0x40 ∷ 0x08 ∷ []; gives = some 22 } ∷
    -- two pairs are asked for, and 14 bits are left
    record { bytes = 0x21 ∷ 0x01 ∷ 0x01 ∷ 0x00 ∷ 0x0c ∷ 0x08 ∷ 0x00 ∷ 0x00 ∷ 0x00 ∷ 0x08 ∷ 0x8c ∷ 0x40 ∷ []; gives = some 6 } ∷
    -- the coefficient 0 is met before the pairs
    record { bytes = 0x21 ∷ 0x01 ∷ 0x01 ∷ 0x00 ∷ 0x0b ∷ 0x08 ∷ 0x00 ∷ 0x00 ∷ 0x00 ∷ 0x00 ∷ 0x80 ∷ []; gives = some 8 } ∷
    -- a count above n is met before the bits that it asks for
    record { bytes = 0x21 ∷ 0x01 ∷ 0x01 ∷ 0x00 ∷ 0x0b ∷ 0x08 ∷ 0x00 ∷ 0x00 ∷ 0x00 ∷ 0x0f ∷ 0xc0 ∷ []; gives = some 21 } ∷
    -- an exponent 0, and the exponents do not fall: 23 is tried before 9
    record {
      bytes = 0x21 ∷ 0x01 ∷ 0x01 ∷ 0x00 ∷ 0x12 ∷ 0x10 ∷ 0x00 ∷ 0x00 ∷ 0x00 ∷ 0x08 ∷ 0x00 ∷ 0x00 ∷ 0x00 ∷ 0x00 ∷ 0x42 ∷ 0x00 ∷ 0x00 ∷ 0x40 ∷ [];
      gives = some 23;
    } ∷
    -- exponent lists fall, though the pairs rise
    record {
      bytes = 0x21 ∷ 0x01 ∷ 0x01 ∷ 0x00 ∷ 0x13 ∷ 0x10 ∷ 0x00 ∷ 0x00 ∷ 0x00 ∷ 0x08 ∷ 0x40 ∷ 0x40 ∷ 0x00 ∷ 0x00 ∷ 0x00 ∷ 0x42 ∷ 0x2a ∷ 0x00 ∷ 0x40 ∷ [];
      gives = none;
    } ∷
    -- neither 1 nor 2
    record { bytes = 0x30 ∷ 0x80 ∷ 0x01 ∷ 0x00 ∷ 0x07 ∷ 0x40 ∷ 0x00 ∷ []; gives = some 3 } ∷
    record { bytes = 0x00 ∷ 0x80 ∷ 0x01 ∷ 0x00 ∷ 0x07 ∷ 0x40 ∷ 0x00 ∷ []; gives = some 3 } ∷
    []

-- Case A in edition 2,
unfoldable pub case_a2 : List ℕ
case_a2 =
    0x21 ∷ 0x02 ∷ 0x03 ∷ 0x00 ∷ 0x25 ∷ 0x1c ∷ 0x00 ∷ 0x00 ∷ 0x00 ∷ 0x08 ∷ 0x40 ∷ 0x40 ∷ 0x00 ∷ 0x00 ∷ 0x00 ∷ 0x42 ∷ 0x24 ∷ 0x00 ∷ 0x00 ∷ 0x00 ∷
    0x02 ∷ 0x01 ∷ 0x00 ∷ 0x00 ∷ 0x00 ∷ 0x01 ∷ 0x04 ∷ 0x06 ∷ 0x00 ∷ 0x00 ∷ 0x00 ∷ 0x04 ∷ 0x08 ∷ 0x10 ∷ 0x01 ∷ 0x01 ∷ 0x80 ∷
    []

-- and its answer, in edition 2.
unfoldable pub short_a2 : List ℕ
short_a2 = 0x21 ∷ 0x01 ∷ 0x01 ∷ 0x00 ∷ 0x12 ∷ 0x10 ∷ 0x00 ∷ 0x00 ∷ 0x00 ∷ 0x10 ∷ 0x40 ∷ 0x60 ∷ 0x00 ∷ 0x00 ∷ 0x00 ∷ 0x40 ∷ 0x01 ∷ 0x00 ∷ []
