-- What `report` says: the program's lines in the lent text if they fit, and the text as it was if they do not. The result, the output's bytes and the
-- text's bytes are determined by the input and by what was lent.
use Rattle.std.specs.Prelude.{◌≡◌, Result, Ok, Err, List, ◌++◌, ℕ, ◌+◌, ◌*◌, ◌<◌, ◌≤◌}
use Rattle.std.proofs.Common.{sym, ◌∙◌, arith, length-append, length-take-le, le-leb}
use Rattle.std.proofs.Math.Path.{ap, subst}
use Rattle.std.proofs.Math.ListN.{length, take, drop}
use Rattle.std.proofs.Math.Seq.{take-append_seam}
use Rattle.rules.specs.Answer as book
use Rattle.rules.specs.Answer.{written, filled_part}
use Rattle.rules.specs.Report.{report}
use Rattle.rules.specs.Demands.{NeverLonger}
use Rattle.laws.specs.Answers.{never-longer-answer}
use Rattle.lines.specs.Parts.{refusal-long, line-long, lines_long}
use Rattle.answer.specs.declared.Verdict.{Verdict}
use Rattle.answer.specs.declared.Counts.{Counts}
use Rattle.answer.specs.declared.Answer.{Answer}
use Rattle.answer.specs.declared.Refusal.{Refusal}
use Rattle.answer.specs.Refusals.{number_of, by_number}
use Rattle.answer.specs.Answered.{verdict_of, counts_of, answer_of, length_in}
use Rattle.answer.specs.Entry.{Answers}
use Rattle.telling.specs.Told.{told, told_length, Told, verdict_in, counts_in, verdict-again, counts-again}
use Rattle.lift.specs.Bounds.{Bounded, by_block, answer-bounded}
use Rattle.lift.specs.Part.{part_length, part-first}
use Rattle.lift.specs.Exported.{length-short}

-- ---- what is said

-- The output is what `simplify` leaves; the lines are those of the book's answer to the bytes.
pub record Reports (bytes before after text text-after : List ℕ) (n : ℕ) : Type 0 where
  pub output : after ≡ written (book.answer (length before) bytes) before
  pub lines : Told (report (book.answer (length before) bytes)) text text-after n

-- ---- how much room is enough

lines-most : (a : book.Answer) → Bounded a → length (report a) ≤ 64578
lines-most (book.refusal number) bounded = omega (arith, refusal-long number)
lines-most (book.answered verdict bytes counts) (by_block head longest) = omega (arith, lines_long verdict bytes counts, line-long verdict counts)

lines-within : (bytes : List ℕ) (a : book.Answer) → NeverLonger bytes a → length (report a) ≤ 3 * length bytes + 32
unfolding NeverLonger
lines-within bytes (book.refusal number) short = omega (arith, refusal-long number)
lines-within bytes (book.answered verdict new counts) short = omega (arith, short.2, lines_long verdict new counts, line-long verdict counts)

module _ (room : ℕ) (bytes : List ℕ) where
  -- A text of 64,578 bytes has room for the lines of every answer;
  pub lines_fit : length (report (book.answer room bytes)) ≤ 64578
  lines_fit = lines-most (book.answer room bytes) (answer-bounded room bytes)

  -- so has one of three bytes for each byte of the input and 32 more, PLACARDPAN_TEXT in include/placardpan.h: the new block is never longer.
  pub lines-fit-input : length (report (book.answer room bytes)) ≤ 3 * length bytes + 32
  lines-fit-input = lines-within bytes (book.answer room bytes) (never-longer-answer room bytes)

module _ {bytes before after text text-after : List ℕ} {n : ℕ} (r : Reports bytes before after text text-after n) where
  -- Where there is room for them all of the lines are told,
  pub reports-whole : length (report (book.answer (length before) bytes)) ≤ length text
      → take n text-after ≡ report (book.answer (length before) bytes)
  unfolding told told_length
  reports-whole fits =
      let lines = report (book.answer (length before) bytes) in
      let all : n ≡ length lines = rw (le-leb (length lines) (length text) fits) at r.lines.returns in
      let whole : text-after ≡ lines ++ drop (length lines) text = rw (le-leb (length lines) (length text) fits) at r.lines.text in
      rw (all, whole) (take-append_seam lines (drop (length lines) text))

  -- so in a text of 64,578 bytes,
  pub reports-all : 64578 ≤ length text → take n text-after ≡ report (book.answer (length before) bytes)
  reports-all room = reports-whole (omega (arith, lines_fit (length before) bytes))

  -- and in one of PLACARDPAN_TEXT.
  pub reports-all-input : 3 * length bytes + 32 ≤ length text → take n text-after ≡ report (book.answer (length before) bytes)
  reports-all-input room = reports-whole (omega (arith, lines-fit-input (length before) bytes))

-- ---- the answer by cases

is-refusal : (a : book.Answer) {number : ℕ} → answer_of a ≡ Err number → a ≡ book.refusal number
unfolding answer_of
is-refusal (book.refusal number) e = cc
is-refusal (book.answered verdict bytes counts) e = absurd (let z : ◌≡◌ {A = ℕ} 0 1 = cc in omega arith)

-- What is returned as an answer is the book's answer, with the filled part for its bytes.
pub is-answer : (a : book.Answer) {answer : Answer} → answer_of a ≡ Ok answer
    → a ≡ book.answered (verdict_in answer.verdict) (filled_part a) (counts_in answer.counts)
unfolding answer_of filled_part
is-answer (book.refusal number) e = absurd (let z : ◌≡◌ {A = ℕ} 0 1 = cc in omega arith)
is-answer (book.answered book-verdict bytes book-counts) {answer} e =
    let verdict-is : verdict_of book-verdict ≡ answer.verdict = cc in
    let counts-are : counts_of book-counts ≡ answer.counts = cc in
    rw (← verdict-is, ← counts-are, verdict-again book-verdict, counts-again book-counts)

part-inside : (a : book.Answer) (before : List ℕ) → length (filled_part a) ≤ length (written a before)
unfolding filled_part written
part-inside (book.refusal number) before = omega arith
part-inside (book.answered verdict bytes counts) before = rw (length-append bytes (drop (length bytes) before)) (omega arith)

module _ {bytes before after : List ℕ} {returned : Result Answer Refusal} (answers : Answers bytes before after returned) where
  given : book.Answer
  given = book.answer (length before) bytes

  -- The line of a refusal is told.
  pub reports-refusal : {refusal : Refusal} → returned ≡ Err refusal → {text text-after : List ℕ} {n : ℕ}
      → Told (report (book.refusal (number_of refusal))) text text-after n → Reports bytes before after text text-after n
  unfolding given
  reports-refusal is {text} {text-after} {n} told_Line =
      let same : given ≡ book.refusal _ = is-refusal given (sym answers.returns ∙ ap by_number is) in
      record { output = answers.output; lines = subst (λ (a : book.Answer). Told (report a) text text-after n) (sym same) told_Line }

  module _ {answer : Answer} (is : returned ≡ Ok answer) where
    size_is : answer.length ≡ length_in (by_number returned)
    size_is = sym (ap (λ (r : Result Answer Refusal). length_in (by_number r)) is)

    -- The new block stands in the output's first bytes,
    pub answer-inside : answer.length ≤ length after
    unfolding given
    answer-inside = omega (arith, size_is, part_length answers, part-inside given before, ap length answers.output)

    -- there are few of them,
    pub answer-small : length (take answer.length after) < 65536
    answer-small = omega (arith, length-take-le answer.length after answer-inside, size_is, length-short answers)

    -- and both lines are told.
    pub reports-answer : {text text-after : List ℕ} {n : ℕ}
        → Told (report (book.answered (verdict_in answer.verdict) (take answer.length after) (counts_in answer.counts))) text text-after n
        → Reports bytes before after text text-after n
    unfolding given
    reports-answer {text} {text-after} {n} told-lines =
        let same : given ≡ book.answered (verdict_in answer.verdict) (filled_part given) (counts_in answer.counts) = is-answer given (sym answers.returns ∙ ap by_number is) in
        let block : take answer.length after ≡ filled_part given = part-first answers answer.length size_is in
        record {
          output = answers.output;
          lines = subst (λ (a : book.Answer). Told (report a) text text-after n) (sym same) (rw block at told-lines);
        }
