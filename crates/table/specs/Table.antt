-- The working table: eighty slots of sixteen places. Slots 0 to 63 hold normal forms, no form twice; slots 64 to 79 hold the variables.
-- Behind the eighty counts of terms stands the mark of the engine that deduces, of which no law speaks: both engines find the same.
-- So a polynomial is the number of its slot, and two are the same exactly if their numbers are.
use Rattle.std.specs.Prelude.{◌≡◌, List, [], ◌∷◌, ℕ, zero, suc, ◌+◌, ◌-◌, ◌*◌, ◌%◌, ◌<◌, ◌≤◌, eqb, ℤ, length, get_or}
use Rattle.rules.specs.Signs.{SignSet}
use Rattle.rules.specs.Polynomial.{Polynomial, Atom, normal, same, variable}
use Rattle.terms.specs.View.{terms_from}
use Rattle.table.specs.declared.Atoms.{Atoms}

-- What the lent slices are together.
pub record Table : Type 0 where
  pub variables : ℕ
  pub coefficient : List ℤ
  pub monomial : List ℕ
  pub terms : List ℕ

-- The polynomial in slot k.
unfoldable pub form_at : Table → ℕ → Polynomial
form_at t k = terms_from t.coefficient t.monomial (16 * k) (get_or t.terms k 0)

-- What every function over the table asks of it. (A slot that no form took holds a form of its own that no block has: one term, with coefficient 0.)
pub record Forms (t : Table) : Type 0 where
  pub variables : t.variables ≤ 16
  pub coefficients : length t.coefficient ≡ 1280
  pub monomials : length t.monomial ≡ 1280
  pub counts : length t.terms ≡ 81
  pub few : (k : ℕ) → get_or t.terms k 0 ≤ 16
  pub own : (k : ℕ) (s : SignSet) → k < 64 → normal (record { polynomial = form_at t k; set = s }) ≡ record { polynomial = form_at t k; set = s }
  pub distinct : (j k : ℕ) → j < 64 → k < 64 → same (form_at t j) (form_at t k) ≡ eqb j k
  pub each_variable : (i : ℕ) → i < t.variables → form_at t (64 + i) ≡ variable t.variables i

-- ---- Lists of atoms over it.

abbrev pub many : ℕ → ℕ
many n = n - (n - 64)

abbrev pub atom_at : Table → List ℕ → List SignSet → ℕ → Atom
atom_at t numbers sets i = record { polynomial = form_at t (get_or numbers i 0 % 64); set = get_or sets i 0 }

unfoldable pub atoms_from : Table → List ℕ → List SignSet → ℕ → ℕ → List Atom
atoms_from t numbers sets i zero = []
atoms_from t numbers sets i (suc k) = atom_at t numbers sets i ∷ atoms_from t numbers sets (suc i) k

abbrev pub atoms_of : Table → Atoms → List Atom
atoms_of t a = atoms_from t a.number a.set 0 (many a.count)
