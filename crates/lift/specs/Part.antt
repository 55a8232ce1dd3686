-- 01, "Refusal numbers": "A second entry gives back the filled part of the lent output itself, empty exactly on refusal."
-- The first bytes of the output are the part, and the length that is returned is its length.
use Rattle.std.specs.Prelude.{◌≡◌, refl, Result, List, ℕ, eqb, length, take}
use Rattle.std.proofs.Common.{ap, ◌∙◌, arith, take_at, ne_eqb}
use Rattle.rules.specs.Answer as book
use Rattle.rules.specs.Answer.{written, filled_part, is_refusal, answer}
use Rattle.answer.specs.declared.Answer.{Answer}
use Rattle.answer.specs.declared.Refusal.{Refusal}
use Rattle.answer.specs.Refusals.{by_number}
use Rattle.answer.specs.Answered.{answer_of, length_in}
use Rattle.lift.specs.Bounds.{Bounded, by_block, answer-bounded}
use Rattle.answer.specs.Entry.{Answers}

-- What the second entry says of the part that it gives back: its bytes, that it begins where the output does, and when it is empty.
abbrev pub Fills : List ℕ → List ℕ → ℕ × ℕ → List ℕ → ℕ × ℕ → Type 0
Fills bytes before start part at =
    let given = answer (length before) bytes in (part ≡ filled_part given) × (at ≡ start) × (eqb (length part) 0 ≡ is_refusal given)

empty-if-bounded : (a : book.Answer) → Bounded a → eqb (length (filled_part a)) 0 ≡ is_refusal a
unfolding filled_part is_refusal
empty-if-bounded (book.refusal number) bounded = refl
empty-if-bounded (book.answered verdict bytes counts) (by_block some few) = ne_eqb (length bytes) 0 (λ none. omega arith)

-- "empty exactly on refusal": a new block has its head at least.
pub empty-exactly-on-refusal : (room : ℕ) (bytes : List ℕ) → eqb (length (filled_part (answer room bytes))) 0 ≡ is_refusal (answer room bytes)
empty-exactly-on-refusal room bytes = empty-if-bounded (answer room bytes) (answer-bounded room bytes)

-- The length that the first entry returns is the part's,
length-filled : (a : book.Answer) → length_in (answer_of a) ≡ length (filled_part a)
unfolding answer_of filled_part
length-filled (book.refusal number) = refl
length-filled (book.answered verdict bytes counts) = refl

-- and the output that it leaves begins with the part.
first-written : (a : book.Answer) (output : List ℕ) → take (length (filled_part a)) (written a output) ≡ filled_part a
unfolding filled_part written
first-written (book.refusal number) output = refl
first-written (book.answered verdict bytes counts) output = take_at bytes _ (length bytes) refl

module _ {bytes before after : List ℕ} {returned : Result Answer Refusal} (answers : Answers bytes before after returned) where
  -- So what is returned has the part's length, and the first bytes of that length are the part.
  pub part_length : length_in (by_number returned) ≡ length (filled_part (answer (length before) bytes))
  part_length = ap length_in answers.returns ∙ length-filled (answer (length before) bytes)

  pub part-first : (filled : ℕ) → filled ≡ length_in (by_number returned) → take filled after ≡ filled_part (answer (length before) bytes)
  part-first filled is = rw (is, part_length, answers.output) (first-written (answer (length before) bytes) before)
