-- The working table of a block's polynomials: how it comes about in four passes, and what its callers rely on.
-- `working_of` determines every element; the record `Worked` is the promise of the function `working`.
use Rattle.std.specs.Prelude.{◌≡◌, Bool, false, List, ℕ, ◌*◌, ◌<◌, ◌≤◌, ℤ, pos, eqb, length, get_or, set, replicate}
use Rattle.rules.specs.Signs.{SignSet, bit}
use Rattle.rules.specs.Polynomial.{normal}
use Rattle.rules.specs.Limits.{PolynomialWithin}
use Rattle.table.specs.Table.{Table, form_at, Forms}
use Rattle.forms.specs.declared.WorkingTable.{WorkingTable}
use Rattle.normal.specs.Normal.{turned_set}
use Rattle.forms.specs.Slots.{slot_of, normal_slots, turned_slots, copied, numbered_slots, is_own, filled_coefficients, filled_monomials, filled_counts}
use Rattle.forms.specs.Slots.{variable_coefficients, variable_monomials, variable_counts}

-- A block's table as the reader leaves it: m polynomials of n variables within the limits of a block, each in its slot.
pub record TableRead (cs : List ℤ) (ms ts : List ℕ) (m n : ℕ) : Type 0 where
  pub coefficients : length cs ≡ 1024
  pub monomials : length ms ≡ 1024
  pub counts : length ts ≡ 64
  pub variables : n ≤ 16
  pub polynomials : m ≤ 64
  pub within : (i : ℕ) → i < m → PolynomialWithin n (slot_of cs ms ts i)

-- What the lent arrays are together.
abbrev pub working_by : List ℤ → List ℕ → List ℕ → List ℕ → List Bool → WorkingTable
working_by coefficient monomial terms number turned = record { coefficient = coefficient; monomial = monomial; terms = terms; number = number; turned = turned }

-- ---- The passes.

-- Whether the mark behind the counts is that of the plain engine.
abbrev pub is_plain : List ℕ → Bool
is_plain ts = eqb (get_or ts 80 0) 1

-- The arrays before the first pass: blank, save the mark.
unfoldable pub blank : Bool → WorkingTable
blank plain = record {
  coefficient = replicate 1280 (pos 0);
  monomial = replicate 1280 0;
  terms = set (replicate 81 0) 80 (bit plain);
  number = replicate 64 0;
  turned = replicate 64 false;
}

-- The polynomials in normal form, each in the slot of its number in the block.
abbrev pub with_forms : List ℤ → List ℕ → List ℕ → ℕ → WorkingTable → WorkingTable
with_forms cs ms ts m w = record {
  coefficient = normal_slots cs ts w.coefficient 0 m;
  monomial = copied ms w.monomial (16 * m);
  terms = copied ts w.terms m;
  number = w.number;
  turned = turned_slots cs ts w.turned m;
}

-- The number of each: the first slot with its form.
abbrev pub with_numbers : ℕ → WorkingTable → WorkingTable
with_numbers m w = record {
  coefficient = w.coefficient;
  monomial = w.monomial;
  terms = w.terms;
  number = numbered_slots w.coefficient w.monomial w.terms w.number m;
  turned = w.turned;
}

-- A filler in each of the first 64 slots that is no number.
abbrev pub with_fillers : ℕ → WorkingTable → WorkingTable
with_fillers m w = record {
  coefficient = filled_coefficients (is_own w.number m) w.coefficient;
  monomial = filled_monomials (is_own w.number m) w.monomial;
  terms = filled_counts (is_own w.number m) w.terms;
  number = w.number;
  turned = w.turned;
}

-- The variables from slot 64 on.
abbrev pub with_variables : ℕ → WorkingTable → WorkingTable
with_variables n w = record {
  coefficient = variable_coefficients n w.coefficient;
  monomial = variable_monomials n w.monomial;
  terms = variable_counts n w.terms;
  number = w.number;
  turned = w.turned;
}

-- The working table of the first m polynomials of n variables in the arrays cs, ms, ts.
unfoldable pub working_of : Bool → List ℤ → List ℕ → List ℕ → ℕ → ℕ → WorkingTable
working_of plain cs ms ts m n = with_variables n (with_fillers m (with_numbers m (with_forms cs ms ts m (blank plain))))

-- ---- What callers rely on.

-- The working table as the engine's functions take it.
abbrev pub table_of : ℕ → WorkingTable → Table
table_of n w = record { variables = n; coefficient = w.coefficient; monomial = w.monomial; terms = w.terms }

-- Every element is determined. The table is one of normal forms, each once. An atom of polynomial i has for its normal form the form that the number of
-- i names, with the set mirrored if the polynomial was negated.
pub record Worked (plain : Bool) (cs : List ℤ) (ms ts : List ℕ) (m n : ℕ) (w : WorkingTable) : Type 0 where
  pub is : w ≡ working_of plain cs ms ts m n
  pub forms : Forms (table_of n w)
  pub below : (i : ℕ) → i < m → get_or w.number i 0 < 64
  pub atoms : (i : ℕ) (s : SignSet) → i < m
      → record { polynomial = form_at (table_of n w) (get_or w.number i 0); set = turned_set (get_or w.turned i false) s }
      ≡ normal (record { polynomial = slot_of cs ms ts i; set = s })
