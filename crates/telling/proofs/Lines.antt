-- The words and the numbers of the report line as the code has them.
use mathlib.Core.Path.{◌≡◌, refl}
use mathlib.Core.List.{[], ◌∷◌, ◌++◌}
use Prim.Native.Nat.{ℕ, ◌≤◌}
use lib.ListN.{length}
use Rattle.rules.specs.Answer as book
use Rattle.rules.specs.Report.{word, refused_word, decimal, report, space, newline}
use Rattle.lines.specs.Parts.{decimal-long}
use Rattle.answer.specs.declared.Verdict.{Verdict}
use Rattle.answer.specs.declared.Verdict.TheVariants.{Formula, Always, Unsatisfiable}
use Rattle.answer.specs.declared.Counts.{Counts}
use Rattle.telling.specs.Told.{verdict_in}

-- ---- the words, byte by byte

pub word-formula : (verdict : Verdict) → verdict ≡ Formula → 70 ∷ 79 ∷ 82 ∷ 77 ∷ 85 ∷ 76 ∷ 65 ∷ [] ≡ word (verdict_in verdict)
unfolding word verdict_in
word-formula verdict is = rw is

pub word-always : (verdict : Verdict) → verdict ≡ Always → 65 ∷ 76 ∷ 87 ∷ 65 ∷ 89 ∷ 83 ∷ [] ≡ word (verdict_in verdict)
unfolding word verdict_in
word-always verdict is = rw is

pub word-unsatisfiable : (verdict : Verdict) → verdict ≡ Unsatisfiable
    → 85 ∷ 78 ∷ 83 ∷ 65 ∷ 84 ∷ 73 ∷ 83 ∷ 70 ∷ 73 ∷ 65 ∷ 66 ∷ 76 ∷ 69 ∷ [] ≡ word (verdict_in verdict)
unfolding word verdict_in
word-unsatisfiable verdict is = rw is

-- ---- the line of a refusal

pub refusal-line : (number : ℕ) → 82 ∷ 69 ∷ 70 ∷ 85 ∷ 83 ∷ 69 ∷ 68 ∷ [] ++ ((space ∷ decimal number) ++ (newline ∷ [])) ≡ report (book.refusal number)
unfolding report refused_word
refusal-line number = refl

-- ---- the counts

-- None of the four counts takes more than three digits.
pub record Few (counts : Counts) : Type 0 where
  pub atoms-in : length (decimal counts.atoms_in) ≤ 3
  pub atoms-out : length (decimal counts.atoms_out) ≤ 3
  pub polynomials-in : length (decimal counts.polynomials_in) ≤ 3
  pub polynomials-out : length (decimal counts.polynomials_out) ≤ 3

pub few : (counts : Counts) → Few counts
few counts = record {
  atoms-in = decimal-long counts.atoms_in;
  atoms-out = decimal-long counts.atoms_out;
  polynomials-in = decimal-long counts.polynomials_in;
  polynomials-out = decimal-long counts.polynomials_out;
}
