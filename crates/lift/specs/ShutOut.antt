-- 01, "How tight the statements are": "These must be shut out". What the entry's contract says at a block of document 01 shuts out each of these
-- programs, whatever else it does. (One real round, the others idle: `rules/Cases: known-results`, case N.)
use Rattle.std.proofs.Math.Path.{◌≡◌, sym, ap}
use Rattle.std.specs.Prelude.{refl, Result, Ok, Err, ℕ, pos, length}
use Rattle.std.proofs.Common.{◌∙◌, subst, true≢false}
use mathlib.Core.List.{List, [], ◌∷◌, ◌++◌}
use native.Mathlib.Omega.{arith}
use Rattle.std.proofs.Math.IntN.{pow, one}
use Rattle.std.proofs.Math.ListN.{drop, get_or}
use Rattle.rules.specs.Signs.{open_signs}
use Rattle.rules.specs.Polynomial.{open_polynomial}
use Rattle.rules.specs.Formula.{open_formula}
use Rattle.rules.specs.Bits.{open_bits}
use Rattle.rules.specs.Block.{read_block, open_block}
use Rattle.rules.specs.Answer as book
use Rattle.rules.specs.Answer.{written, filled_part, formula_of, looked_up, answer}
use Rattle.rules.specs.Meaning.{monomial_at, value_by, sign_at, atom_holds, holds, holds_at}
use Rattle.rules.specs.Demands.{SameLifts, SameWholeLifts}
use Rattle.rules.specs.Cases.{case_a, short_a}
use Rattle.rules.proofs.Cases.{bytes-of-A}
use Rattle.laws.specs.Answers.{at-whole-numbers}
use Rattle.answer.specs.declared.Verdict.{Verdict}
use Rattle.answer.specs.declared.Verdict.TheVariants.{Always}
use Rattle.answer.specs.declared.Counts.{Counts}
use Rattle.answer.specs.declared.Answer.{Answer}
use Rattle.answer.specs.declared.Refusal.{Refusal}
use Rattle.answer.specs.Refusals.{number_of, by_number}
use Rattle.answer.specs.Answered.{answer_of, verdict_of, counts_of}
use Rattle.answer.specs.Entry.{Answers}
use Rattle.telling.specs.Told.{verdict_in, counts_in}
use Rattle.lift.specs.Lines.{is-answer}

-- ---- demand 2, case A

-- "FORMULA 2 1 2 1"
abbrev pub counts_of_a : book.Counts
counts_of_a = record { atoms-in = 2; atoms-out = 1; polynomials-in = 2; polynomials-out = 1 }

module _ {before after : List ℕ} {returned : Result Answer Refusal} (room : length before ≡ 36) (answers : Answers case_a before after returned) where
  answer-is : answer (length before) case_a ≡ book.answered book.formula short_a counts_of_a
  answer-is = ap (λ (n : ℕ). answer n case_a) room ∙ bytes-of-A

  returned-is : by_number returned ≡ answer_of (book.answered book.formula short_a counts_of_a)
  returned-is = answers.returns ∙ ap answer_of answer-is

  -- Refusing all: it is no refusal.
  pub no-refusing-all : {refusal : Refusal} → returned ≡ Err refusal → ⊥
  unfolding answer_of
  no-refusing-all {refusal} is =
      let same : Err (number_of refusal) ≡ answer_of (book.answered book.formula short_a counts_of_a) = sym (ap by_number is) ∙ returned-is in
      let z : ◌≡◌ {A = ℕ} 0 1 = cc in omega arith

  -- Copying the input: the output is not the input.
  pub no-copying : after ≡ case_a → ⊥
  unfolding written case_a short_a
  no-copying copied =
      let left : after ≡ short_a ++ drop (length short_a) before = answers.output ∙ ap (λ (a : book.Answer). written a before) answer-is in
      let second : ◌≡◌ {A = ℕ} 1 2 = ap (λ (l : List ℕ). get_or l 1 0) (sym left ∙ copied) in omega arith

  -- Invented atom counts: they are 2, 1, 2 and 1.
  pub no-invented-counts : {answer : Answer} → returned ≡ Ok answer → answer.counts ≡ counts_of counts_of_a
  unfolding answer_of
  no-invented-counts {answer} is =
      let same : Ok answer ≡ answer_of (book.answered book.formula short_a counts_of_a) = sym (ap by_number is) ∙ returned-is in cc

-- ---- demand 3, case E: x²+1 ≤ 0

unfoldable pub case_e : List ℕ
case_e = 0x10 ∷ 0x81 ∷ 0x01 ∷ 0x00 ∷ 0x10 ∷ 0x10 ∷ 0x00 ∷ 0x00 ∷ 0x00 ∷ 0x09 ∷ 0x00 ∷ 0x00 ∷ 0x00 ∷ 0x00 ∷ 0x80 ∷ 0x06 ∷ []

-- At x = 0 it does not hold.
not-always : (bytes : List ℕ) (counts : book.Counts) → SameLifts (read_block case_e) (book.answered book.always bytes counts) → ⊥
unfolding SameWholeLifts open_signs open_polynomial open_formula open_bits open_block formula_of looked_up monomial_at value_by sign_at atom_holds holds holds_at case_e pow one
not-always bytes counts same =
    true≢false (sym ((at-whole-numbers (read_block case_e) (book.answered book.always bytes counts) same (pos 0 ∷ []) refl).1 refl))

-- Always "ALWAYS": demand 3 alone does not allow it here.
pub no-always : {before after : List ℕ} {returned : Result Answer Refusal} → Answers case_e before after returned
    → SameLifts (read_block case_e) (answer (length before) case_e) → {told : Answer} → told.verdict ≡ Always → returned ≡ Ok told → ⊥
unfolding verdict_in
no-always {before} answers same {told} always is =
    let a = answer (length before) case_e in
    let said : a ≡ book.answered book.always (filled_part a) (counts_in told.counts)
    = rw (ap verdict_in always) at (is-answer a (sym answers.returns ∙ ap by_number is)) in
    not-always (filled_part a) (counts_in told.counts) (subst (SameLifts (read_block case_e)) said same)
