-- What the functions for C return: one number for each case of the book's answer, with document 01's numbers and values.
-- The laws say that the number tells the case, and that the case's values can be taken out of it again.
use Rattle.std.specs.Prelude.{◌≡◌, refl, false, Result, Ok, Err, List, ℕ, ◌+◌, ◌*◌, ◌/◌, ◌%◌, ◌<◌, ◌≤◌, ltb, length}
use Rattle.std.proofs.Common.{ap, ◌∙◌, true≢false, arith, lit≤, lt-ltb, le-ltb}
use Rattle.rules.specs.Answer as book
use Rattle.rules.specs.Block.{read_block}
use Rattle.rules.specs.Answer.{written, filled_part, is_refusal, answer, placed_answer, places_written}
use Rattle.answer.specs.declared.Verdict.{Verdict}
use Rattle.answer.specs.declared.Verdict.TheVariants.{Formula, Always, Unsatisfiable}
use Rattle.answer.specs.declared.Counts.{Counts}
use Rattle.answer.specs.declared.Answer.{Answer}
use Rattle.answer.specs.declared.Refusal.{Refusal}
use Rattle.answer.specs.Refusals.{by_number as numbered}
use Rattle.answer.specs.Answered.{verdict_of, counts_of, answer_of, length_in}
use Rattle.lift.specs.Refusals.{to-twenty-three}
use Rattle.lift.specs.Bounds.{Bounded, by_number, by_block, answer-bounded}
use Rattle.answer.specs.Entry.{Answers}
use Rattle.lift.specs.Part.{part_length}
use Rattle.lift.specs.Places.{PlacedAnswers, by-places}
use Rattle.lift.specs.Rounds.{rounds_in}

-- "a verdict (formula, always, unsatisfiable)", counted from 1
unfoldable pub verdict_number : book.Verdict → ℕ
verdict_number book.formula = 1
verdict_number book.always = 2
verdict_number book.unsatisfiable = 3

-- "A refusal returns its number and length 0 .. An answer returns a verdict and a length": the refusal's number, or the verdict's times 65,536 and the length.
unfoldable pub exported : book.Answer → ℕ
exported (book.refusal number) = number
exported (book.answered verdict bytes counts) = verdict_number verdict * 65536 + length bytes

-- The counts of an answer; a refusal has none.
unfoldable pub counted : book.Answer → book.Counts
counted (book.refusal number) = record { atoms-in = 0; atoms-out = 0; polynomials-in = 0; polynomials-out = 0 }
counted (book.answered verdict bytes counts) = counts

-- ---- what the functions for C say: the number that is returned, the output's bytes and the counts, from the bytes and the output before

abbrev pub ExportsAnswer : List ℕ → List ℕ → List ℕ → ℕ → Type 0
ExportsAnswer bytes before after r = let given = answer (length before) bytes in (r ≡ exported given) × (after ≡ written given before)

abbrev pub ExportsLength : List ℕ → List ℕ → List ℕ → ℕ → Type 0
ExportsLength bytes before after r = let given = answer (length before) bytes in (r ≡ length (filled_part given)) × (after ≡ written given before)

abbrev pub ExportsCounts : List ℕ → List ℕ → List ℕ → ℕ → ℕ → ℕ → ℕ → ℕ → Type 0
ExportsCounts bytes before after r atoms-in atoms-out polynomials-in polynomials-out =
    let given = answer (length before) bytes in
    (r ≡ exported given) × (after ≡ written given before)
    × (atoms-in ≡ (counted given).atoms-in) × (atoms-out ≡ (counted given).atoms-out)
    × (polynomials-in ≡ (counted given).polynomials-in) × (polynomials-out ≡ (counted given).polynomials-out)

abbrev pub ExportsPlaces : List ℕ → List ℕ → List ℕ → List ℕ → List ℕ → ℕ → Type 0
ExportsPlaces bytes before after slice told r =
    let given = placed_answer (length before) (length slice) bytes in
    (r ≡ exported given) × (after ≡ written given before) × (told ≡ places_written given (read_block bytes) slice)

abbrev pub ExportsRounds : List ℕ → List ℕ → List ℕ → ℕ → ℕ → Type 0
ExportsRounds bytes before after r rounds =
    let given = answer (length before) bytes in (r ≡ exported given) × (after ≡ written given before) × (rounds ≡ rounds_in (length before) bytes)

-- ---- the same over what the first entry returns

abbrev pub packed_of : Verdict → ℕ → ℕ
packed_of Formula size = 65536 + size
packed_of Always size = 131072 + size
packed_of Unsatisfiable size = 196608 + size

abbrev pub number_in : Result Answer ℕ → ℕ
number_in (Err number) = number
number_in (Ok answer) = packed_of answer.verdict answer.length

abbrev pub counts_or_zero : Result Answer ℕ → Counts
counts_or_zero (Err number) = record { atoms_in = 0; atoms_out = 0; polynomials_in = 0; polynomials_out = 0 }
counts_or_zero (Ok answer) = answer.counts

packed-verdict : (verdict : book.Verdict) (size : ℕ) → packed_of (verdict_of verdict) size ≡ verdict_number verdict * 65536 + size
unfolding verdict_of verdict_number
packed-verdict book.formula size = refl
packed-verdict book.always size = refl
packed-verdict book.unsatisfiable size = refl

number-answer : (a : book.Answer) → number_in (answer_of a) ≡ exported a
unfolding answer_of exported
number-answer (book.refusal number) = refl
number-answer (book.answered verdict bytes counts) = packed-verdict verdict (length bytes)

counts-answer : (a : book.Answer) → counts_or_zero (answer_of a) ≡ counts_of (counted a)
unfolding answer_of counted counts_of
counts-answer (book.refusal number) = refl
counts-answer (book.answered verdict bytes counts) = refl

part-short : (a : book.Answer) → Bounded a → length (filled_part a) < 65536
unfolding filled_part
part-short (book.refusal number) bounded = omega arith
part-short (book.answered verdict bytes counts) (by_block head longest) = omega arith

module _ {bytes before after : List ℕ} {returned : Result Answer Refusal} (answers : Answers bytes before after returned) where
  -- The length of what is returned has room below the verdict's number.
  pub length-short : length_in (numbered returned) < 65536
  length-short = omega (arith, part_length answers, part-short (answer (length before) bytes) (answer-bounded (length before) bytes))

  -- The number and the counts are the answer's.
  pub number-exported : number_in (numbered returned) ≡ exported (answer (length before) bytes)
  number-exported = ap number_in answers.returns ∙ number-answer (answer (length before) bytes)

  pub counts-counted : counts_or_zero (numbered returned) ≡ counts_of (counted (answer (length before) bytes))
  counts-counted = ap counts_or_zero answers.returns ∙ counts-answer (answer (length before) bytes)

-- The same of the entry with places.
length-bounded : (a : book.Answer) → Bounded a → length_in (answer_of a) < 65536
unfolding answer_of
length-bounded (book.refusal number) bounded = omega arith
length-bounded (book.answered verdict bytes counts) (by_block head longest) = omega arith

module _ {bytes before after slice told : List ℕ} {returned : Result Answer Refusal} (answers : PlacedAnswers bytes before after slice told returned) where
  pub placed-length-short : length_in (numbered returned) < 65536
  unfolding answer_of
  placed-length-short =
      rw answers.returns
      (by-places (λ (a : book.Answer). length_in (answer_of a) < 65536) (length before) (length slice) bytes (λ number. omega arith)
      (length-bounded (answer (length before) bytes) (answer-bounded (length before) bytes)))

  pub placed-number : number_in (numbered returned) ≡ exported (placed_answer (length before) (length slice) bytes)
  placed-number = ap number_in answers.returns ∙ number-answer (placed_answer (length before) (length slice) bytes)

-- ---- what can be told from the number

-- The verdict's number; a refusal has no verdict: 0.
unfoldable pub verdict_if_any : book.Answer → ℕ
verdict_if_any (book.refusal number) = 0
verdict_if_any (book.answered verdict bytes counts) = verdict_number verdict

verdict-numbers : (verdict : book.Verdict) → (1 ≤ verdict_number verdict) × (verdict_number verdict ≤ 3)
unfolding verdict_number
verdict-numbers book.formula = (lit≤ tt, lit≤ tt)
verdict-numbers book.always = (lit≤ tt, lit≤ tt)
verdict-numbers book.unsatisfiable = (lit≤ tt, lit≤ tt)

low : (v size : ℕ) → size < 65536 → (v * 65536 + size) % 65536 ≡ size
low v size short = omega arith

high : (v size : ℕ) → size < 65536 → (v * 65536 + size) / 65536 ≡ v
high v size short = omega arith

refusal-if : (a : book.Answer) → Bounded a → ltb (exported a) 256 ≡ is_refusal a
unfolding exported is_refusal
refusal-if (book.refusal number) (by_number in_table) = lt-ltb number 256 (omega (arith, to-twenty-three in_table))
refusal-if (book.answered verdict bytes counts) bounded =
    le-ltb (verdict_number verdict * 65536 + length bytes) 256 (omega (arith, (verdict-numbers verdict).0))

verdict-if : (a : book.Answer) → Bounded a → exported a / 65536 ≡ verdict_if_any a
unfolding exported verdict_if_any
verdict-if (book.refusal number) (by_number in_table) = let few = to-twenty-three in_table in omega arith
verdict-if (book.answered verdict bytes counts) (by_block head longest) = high (verdict_number verdict) (length bytes) (omega arith)

length-if : (a : book.Answer) → Bounded a → is_refusal a ≡ false → exported a % 65536 ≡ length (filled_part a)
unfolding exported is_refusal filled_part
length-if (book.refusal number) bounded is = absurd (true≢false is)
length-if (book.answered verdict bytes counts) (by_block head longest) is = low (verdict_number verdict) (length bytes) (omega arith)

module _ (room : ℕ) (bytes : List ℕ) where
  -- Below 256 exactly on refusal,
  pub below-256-on-refusal : ltb (exported (answer room bytes)) 256 ≡ is_refusal (answer room bytes)
  below-256-on-refusal = refusal-if (answer room bytes) (answer-bounded room bytes)

  -- the verdict's number in the upper 16 bits,
  pub verdict-above : exported (answer room bytes) / 65536 ≡ verdict_if_any (answer room bytes)
  verdict-above = verdict-if (answer room bytes) (answer-bounded room bytes)

  -- and unless it is a refusal, the length in the lower 16.
  pub length-below : is_refusal (answer room bytes) ≡ false → exported (answer room bytes) % 65536 ≡ length (filled_part (answer room bytes))
  length-below = length-if (answer room bytes) (answer-bounded room bytes)
