-- The reader's arrays hold a block's table: each polynomial in the slot of its number.
-- So the working table gives each atom of the block's tree its normal form.
use Rattle.std.specs.Prelude.{◌≡◌, Bool, false, List, [], ◌∷◌, ℕ, zero, suc, ◌<◌, ◌≤◌, ℤ, length, get_or}
use Rattle.std.proofs.Math.Path.{ap}
use Rattle.std.proofs.Common.{◌∙◌, arith}
use Rattle.rules.specs.Polynomial.{Polynomial, normal}
use Rattle.rules.specs.Block.{NumberedAtom}
use Rattle.rules.specs.Limits.{PolynomialWithin, TableWithin, polynomials}
use Rattle.rules.specs.Answer.{looked_up}
use Rattle.table.specs.Table.{form_at}
use Rattle.forms.specs.declared.WorkingTable.{WorkingTable}
use Rattle.normal.specs.Normal.{turned_set}
use Rattle.forms.specs.Slots.{slot_of}
use Rattle.forms.specs.Working.{TableRead, table_of, Worked}

-- Each polynomial of the table stands in the slot of its number.
pub record Holds (cs : List ℤ) (ms ts : List ℕ) (table : List Polynomial) : Type 0 where
  pub coefficients : length cs ≡ 1024
  pub monomials : length ms ≡ 1024
  pub counts : length ts ≡ 64
  pub each : (i : ℕ) → i < length table → slot_of cs ms ts i ≡ get_or table i []

within-at : {n : ℕ} (table : List Polynomial) (i : ℕ) → TableWithin n table → i < length table → PolynomialWithin n (get_or table i [])
within-at [] i within h = absurd (omega arith)
within-at (p ∷ ps) zero (polynomials first later) h = first
within-at (p ∷ ps) (suc i) (polynomials first later) h = within-at ps i later (omega arith)

module _ (cs : List ℤ) (ms ts : List ℕ) (n : ℕ) (table : List Polynomial) (holds : Holds cs ms ts table) where
  -- What the working table asks of the arrays, from the limits of a block.
  pub table-read : n ≤ 16 → length table ≤ 64 → TableWithin n table → TableRead cs ms ts (length table) n
  table-read few most within = record {
    coefficients = holds.coefficients;
    monomials = holds.monomials;
    counts = holds.counts;
    variables = few;
    polynomials = most;
    within = λ i h. rw (holds.each i h) (within-at table i within h);
  }

  -- An atom of the block's tree has for its normal form the form that its polynomial's number names.
  pub atom-normal : {plain : Bool} (w : WorkingTable) → Worked plain cs ms ts (length table) n w → (a : NumberedAtom) → a.number < length table
      → record { polynomial = form_at (table_of n w) (get_or w.number a.number 0); set = turned_set (get_or w.turned a.number false) a.set }
      ≡ normal (looked_up table a)
  unfolding looked_up
  atom-normal w worked a h = worked.atoms a.number a.set h ∙ ap (λ (p : Polynomial). normal (record { polynomial = p; set = a.set })) (holds.each a.number h)
