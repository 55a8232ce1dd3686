-- 02, #108: the largest number of rounds that one run took, beside the answer; a refusal has none. And it is at most 161, whatever the bytes.
use Rattle.std.specs.Prelude.{◌≡◌, refl, Err, List, ℕ, ◌<◌, ◌≤◌, max, length}
use Rattle.std.proofs.Common.{sym, ap, ◌∙◌, zero-le}
use Rattle.std.proofs.Math.Nat.{max-zero, max-eq_right}
use Rattle.rules.specs.Block.{Block, Reading, refused, read, read_block}
use Rattle.rules.specs.Answer as book
use Rattle.rules.specs.Answer.{rounds_of, answer}
use Rattle.laws.specs.Rounds.{few-rounds}
use Rattle.answer.specs.declared.Refusal.TheVariants.{OutputShort}
use Rattle.answer.specs.declared.WithRounds.{WithRounds}
use Rattle.answer.specs.Answered.{answer-short, answer-refused, answer-accepted}
use Rattle.answer.specs.Entry.{Answers, CountsRounds}
use Rattle.lift.specs.Entry.{answers-short}

-- "and 0 if there was no run": a refusal has none.
unfoldable pub if_answered : book.Answer → ℕ → ℕ
if_answered (book.refusal number) rounds = 0
if_answered (book.answered verdict bytes counts) rounds = rounds

-- The number for these bytes, where the output has so much room.
unfoldable pub rounds_in : ℕ → List ℕ → ℕ
rounds_in room bytes = if_answered (answer room bytes) (rounds_of (read_block bytes))

-- What is returned and what the output holds afterwards.
pub record RoundsAnswers (bytes before after : List ℕ) (returned : WithRounds) : Type 0 where
  pub answers : Answers bytes before after returned.answer
  pub rounds : returned.rounds ≡ rounds_in (length before) bytes

-- ---- by cases

rounds-short : (room : ℕ) (bytes : List ℕ) → room < length bytes → rounds_in room bytes ≡ 0
unfolding rounds_in if_answered
rounds-short room bytes h = rw (answer-short room bytes h)

rounds-enough : (room : ℕ) (bytes : List ℕ) → length bytes ≤ room → rounds_in room bytes ≡ rounds_of (read_block bytes)
unfolding rounds_in if_answered rounds_of
rounds-enough room bytes h = by-reading (read_block bytes) refl
  where
    by-reading : (reading : Reading Block) → read_block bytes ≡ reading
        → if_answered (answer room bytes) (rounds_of (read_block bytes)) ≡ rounds_of (read_block bytes)
    by-reading (refused number) e = rw (answer-refused room bytes h e, e)
    by-reading (read given stream) e = rw (answer-accepted room bytes h e)

-- Too little room.
pub rounds-answer-short : (bytes before : List ℕ) → length before < length bytes
    → RoundsAnswers bytes before before (record { answer = Err OutputShort; rounds = 0 })
rounds-answer-short bytes before h = record { answers = answers-short bytes before h; rounds = sym (rounds-short (length before) bytes h) }

-- What the reader refuses has no run.
pub refused-counts : {bytes : List ℕ} {number : ℕ} (largest : ℕ) → read_block bytes ≡ refused number → CountsRounds bytes largest largest
unfolding rounds_of
refused-counts largest e = record { is = sym (ap (λ (reading : Reading Block). max largest (rounds_of reading)) e ∙ max-zero largest) }

-- And else the number is counted from 0.
pub rounds-answer : {bytes before after : List ℕ} {returned : WithRounds} → length bytes ≤ length before
    → Answers bytes before after returned.answer → CountsRounds bytes 0 returned.rounds → RoundsAnswers bytes before after returned
rounds-answer {bytes} {before} h answers counts = record {
  answers = answers;
  rounds = counts.is ∙ max-eq_right zero-le ∙ sym (rounds-enough (length before) bytes h);
}

-- ---- the bound

if-answered-few : (a : book.Answer) {k : ℕ} → k ≤ 161 → if_answered a k ≤ 161
unfolding if_answered
if-answered-few (book.refusal number) h = zero-le
if-answered-few (book.answered verdict bytes counts) h = h

-- 2(16 + 64) + 1 = 161: "a run over n variables and k non-variable atoms takes at most 2(n+k)+1 rounds"
pub at-most-161 : (room : ℕ) (bytes : List ℕ) → rounds_in room bytes ≤ 161
unfolding rounds_in
at-most-161 room bytes = if-answered-few (answer room bytes) (few-rounds bytes)
