-- 02, #105: the entry with places, by cases. "Refusals: 18 if that slice is shorter than 255, tried directly after 1"; "on refusal all are" unchanged.
use Rattle.std.specs.Prelude.{◌≡◌, refl, Bool, true, false, Result, Err, List, ℕ, ◌<◌, ◌≤◌, leb, length}
use Rattle.std.proofs.Math.Path.{sym}
use Rattle.std.proofs.Common.{ap, ◌∙◌, subst}
use borrow.Author.Tests.{le-leb, lt-leb}
use Rattle.rules.specs.Block.{Block, Stream, Reading, refused, read, head_edition, read_block}
use Rattle.rules.specs.Answer as book
use Rattle.rules.specs.Answer.{written, unless_short, unless_few, answer_to, placed_answer, places_written}
use Rattle.rules.specs.Demands.{SameLifts, NeverLonger}
use Rattle.laws.specs.Answers.{same-lifts, never-longer-answer}
use Rattle.answer.specs.declared.Answer.{Answer}
use Rattle.answer.specs.declared.Refusal.{Refusal}
use Rattle.answer.specs.declared.Refusal.TheVariants.{OutputShort, PlacesShort}
use Rattle.answer.specs.Refusals.{number_of, by_number}
use Rattle.answer.specs.Answered.{answer_of, answer-refused, answer-accepted}
use Rattle.answer.specs.Entry.{Answers, TellsPlaces}

-- What the slice of places holds afterwards, where the output has so much room.
pub record Places (bytes : List ℕ) (room : ℕ) (before after : List ℕ) : Type 0 where
  pub is : after ≡ places_written (book.answer room bytes) (read_block bytes) before

-- What is returned, what the output and what the slice of places hold afterwards.
pub record PlacedAnswers (bytes before after slice told : List ℕ) (returned : Result Answer Refusal) : Type 0 where
  pub returns : by_number returned ≡ answer_of (placed_answer (length before) (length slice) bytes)
  pub output : after ≡ written (placed_answer (length before) (length slice) bytes) before
  pub places : told ≡ places_written (placed_answer (length before) (length slice) bytes) (read_block bytes) slice

module _ (bytes : List ℕ) (room : ℕ) (enough : length bytes ≤ room) (slice : List ℕ) where
  -- What the reader refuses leaves them as they were,
  pub places-refused : {number : ℕ} → read_block bytes ≡ refused number → Places bytes room slice slice
  unfolding places_written
  places-refused e = record { is = sym (ap (λ (a : book.Answer). places_written a (read_block bytes) slice) (answer-refused room bytes enough e)) }

  -- and where it accepts they are told.
  pub places-accepted : {given : Block} {stream : Stream} {after : List ℕ} → read_block bytes ≡ read given stream → TellsPlaces bytes slice after
      → Places bytes room slice after
  unfolding places_written
  places-accepted e told = record {
    is = told.is ∙ sym (ap (λ (a : book.Answer). places_written a (read_block bytes) slice) (answer-accepted room bytes enough e));
  }

-- ---- the refusals

module _ (room few : ℕ) (bytes : List ℕ) where
  placed-short : room < length bytes → placed_answer room few bytes ≡ book.refusal 1
  unfolding placed_answer unless_short
  placed-short h = rw (lt-leb (length bytes) room h)

  placed-few : length bytes ≤ room → few < 255 → placed_answer room few bytes ≡ book.refusal 18
  unfolding placed_answer unless_short unless_few
  placed-few h k = rw (le-leb (length bytes) room h, lt-leb 255 few k)

  -- With 255 places it is the answer of the first entry.
  placed-enough : 255 ≤ few → placed_answer room few bytes ≡ book.answer room bytes
  unfolding placed_answer unless_few book.answer
  placed-enough k = rw (le-leb 255 few k)

module _ (bytes before slice : List ℕ) where
  refused-with : (refusal : Refusal) → placed_answer (length before) (length slice) bytes ≡ book.refusal (number_of refusal)
      → PlacedAnswers bytes before before slice slice (Err refusal)
  unfolding answer_of written places_written
  refused-with refusal e = record {
    returns = sym (ap answer_of e);
    output = sym (ap (λ (a : book.Answer). written a before) e);
    places = sym (ap (λ (a : book.Answer). places_written a (read_block bytes) slice) e);
  }

  pub placed-refused-1 : length before < length bytes → PlacedAnswers bytes before before slice slice (Err OutputShort)
  placed-refused-1 h = refused-with OutputShort (placed-short (length before) (length slice) bytes h)

  pub placed-refused-18 : length bytes ≤ length before → length slice < 255 → PlacedAnswers bytes before before slice slice (Err PlacesShort)
  placed-refused-18 h k = refused-with PlacesShort (placed-few (length before) (length slice) bytes h k)

  pub placed-answers : {after told : List ℕ} {returned : Result Answer Refusal} → 255 ≤ length slice → Answers bytes before after returned
      → Places bytes (length before) slice told → PlacedAnswers bytes before after slice told returned
  placed-answers k answers places =
      let same = sym (placed-enough (length before) (length slice) bytes k) in
      record {
        returns = answers.returns ∙ ap answer_of same;
        output = answers.output ∙ ap (λ (a : book.Answer). written a before) same;
        places = places.is ∙ ap (λ (a : book.Answer). places_written a (read_block bytes) slice) same;
      }

-- ---- the demands: what is so of the first entry's answer and of refusals is so of this one's

pub by-places : (P : book.Answer → Type 0) (room few : ℕ) (bytes : List ℕ) → ((number : ℕ) → P (book.refusal number)) → P (book.answer room bytes)
    → P (placed_answer room few bytes)
unfolding placed_answer book.answer unless_few unless_short
by-places P room few bytes on-refusal on-answer = by-few (leb 255 few)
  where
    by-room : (enough : Bool) → P (unless_short enough (book.refusal 18))
    by-room true = on-refusal 18
    by-room false = on-refusal 1

    by-few : (b : Bool) → P (unless_short (leb (length bytes) room) (unless_few b (answer_to (head_edition bytes) (read_block bytes))))
    by-few true = on-answer
    by-few false = by-room (leb (length bytes) room)

pub placed-same-lifts : (room few : ℕ) (bytes : List ℕ) → SameLifts (read_block bytes) (placed_answer room few bytes)
unfolding SameLifts
placed-same-lifts room few bytes = by-places (SameLifts (read_block bytes)) room few bytes (refused-same (read_block bytes)) (same-lifts room bytes)
  where
    refused-same : (reading : Reading Block) (number : ℕ) → SameLifts reading (book.refusal number)
    refused-same reading number = tt

pub placed-never-longer : (room few : ℕ) (bytes : List ℕ) → NeverLonger bytes (placed_answer room few bytes)
unfolding NeverLonger
placed-never-longer room few bytes = by-places (NeverLonger bytes) room few bytes (λ number. tt) (never-longer-answer room bytes)
