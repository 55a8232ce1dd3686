-- What is told of an answer: its lines in the lent text if they fit, and the text as it was if they do not. The lines are those of the book's verdict
-- and counts, which the returned ones stand for.
use Rattle.std.specs.Prelude.{◌≡◌, refl, cond, List, ◌++◌, ℕ, ◌<◌, ◌≤◌, leb, length, take, drop}
use Rattle.std.proofs.Common.{arith, le-leb}
use Rattle.std.proofs.lemmas.Bool.{lt-leb}
use Rattle.rules.specs.Answer as book
use Rattle.lines.specs.Written.{Wrote, wrote-long, front-end, front-whole, front-again}
use Rattle.answer.specs.declared.Verdict.{Verdict}
use Rattle.answer.specs.declared.Verdict.TheVariants.{Formula, Always, Unsatisfiable}
use Rattle.answer.specs.declared.Counts.{Counts}
use Rattle.answer.specs.Answered.{verdict_of, counts_of}

-- ---- what is said

-- What the text holds afterwards: the lines and then what stood behind them; if they do not fit, what it held.
unfoldable pub told : List ℕ → List ℕ → List ℕ
told lines text = cond (leb (length lines) (length text)) (lines ++ drop (length lines) text) text

-- How many bytes were told: all of the lines, or none.
unfoldable pub told_length : List ℕ → List ℕ → ℕ
told_length lines text = cond (leb (length lines) (length text)) (length lines) 0

pub record Told (lines before after : List ℕ) (n : ℕ) : Type 0 where
  pub returns : n ≡ told_length lines before
  pub text : after ≡ told lines before

-- A line of at most 30 bytes stands at the front of the bytes in which it was made.
pub record Made (line after : List ℕ) (n : ℕ) : Type 0 where
  pub is : take n after ≡ line
  pub long : n ≡ length line
  pub inside : n ≤ length after
  pub small : n ≤ 30

-- The book's verdict and counts, from those that are returned.
unfoldable pub verdict_in : Verdict → book.Verdict
verdict_in Formula = book.formula
verdict_in Always = book.always
verdict_in Unsatisfiable = book.unsatisfiable

unfoldable pub counts_in : Counts → book.Counts
counts_in counts = record {
  atoms-in = counts.atoms_in;
  atoms-out = counts.atoms_out;
  polynomials-in = counts.polynomials_in;
  polynomials-out = counts.polynomials_out;
}

-- From those that stand for the book's, the book's again.
pub verdict-again : (verdict : book.Verdict) → verdict_in (verdict_of verdict) ≡ verdict
unfolding verdict_in verdict_of
verdict-again book.formula = refl
verdict-again book.always = refl
verdict-again book.unsatisfiable = refl

pub counts-again : (counts : book.Counts) → counts_in (counts_of counts) ≡ counts
unfolding counts_in counts_of
counts-again counts = refl

-- ---- the lines by cases

-- A line is made once it is written at the front.
pub made : {line before after : List ℕ} {n : ℕ} → length line ≤ 30 → 30 ≤ length before → Wrote before after 0 line n → Made line after n
made {line} {before} {after} {n} few room w =
    let fits : length line ≤ length before = omega arith in
    let end = front-end fits w in
    record { is = front-again fits w; long = end; inside = omega (arith, wrote-long w); small = omega arith }

-- Lines that do not fit are not told.
pub told_none : {lines text : List ℕ} → length text < length lines → Told lines text text 0
unfolding told told_length
told_none {lines} {text} h = record { returns = rw (lt-leb (length lines) (length text) h); text = rw (lt-leb (length lines) (length text) h) }

-- Lines that fit are told once they are written.
pub told-all : {lines text after : List ℕ} {n : ℕ} → length lines ≤ length text → Wrote text after 0 lines n → Told lines text after n
unfolding told told_length
told-all {lines} {text} {after} {n} h w = record {
  returns = rw (le-leb (length lines) (length text) h) (front-end h w);
  text = rw (le-leb (length lines) (length text) h) (front-whole h w);
}
