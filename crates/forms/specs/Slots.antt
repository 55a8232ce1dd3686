-- The slots of a table, sixteen places each: the normal forms of a block's polynomials, the number of each, the fillers, the variables.
-- Each definition says what one array holds after one walk over the slots.
use Rattle.std.specs.Prelude.{◌≡◌, Bool, false, cond, ◌&&◌, List, ℕ, zero, suc, ◌+◌, ◌-◌, ◌*◌, ◌^◌, ◌<◌, ◌≤◌, eqb, ltb, ℤ, pos, length, get_or}
use Rattle.rules.specs.Polynomial.{Polynomial, same_number, same}
use Rattle.terms.specs.View.{terms_from}
use Rattle.normal.specs.Stores.{stores}
use Rattle.normal.specs.Normal.{Bounded, is_turned, normal_run}

-- The polynomial in slot i: slot i of a block's arrays, or of a working table's.
abbrev pub slot_of : List ℤ → List ℕ → List ℕ → ℕ → Polynomial
slot_of cs ms ts i = terms_from cs ms (16 * i) (get_or ts i 0)

-- ---- The normal forms.

-- What the walk over the first m slots of a block's arrays asks of them.
pub record Readable (cs : List ℤ) (ts : List ℕ) (m : ℕ) : Type 0 where
  pub most : m ≤ 64
  pub counts : m ≤ length ts
  pub few : (i : ℕ) → i < m → get_or ts i 0 ≤ 16
  pub bounded : (i : ℕ) → i < m → Bounded cs (16 * i) (16 * i + get_or ts i 0)

-- Whether the polynomial in slot i is negated on the way to its normal form.
abbrev pub slot_turned : List ℤ → List ℕ → ℕ → Bool
slot_turned cs ts i = is_turned cs (16 * i) (16 * i + get_or ts i 0)

-- The coefficients of the normal forms of the k slots from i on, in target.
unfoldable pub normal_slots : List ℤ → List ℕ → List ℤ → ℕ → ℕ → List ℤ
normal_slots cs ts target i zero = target
normal_slots cs ts target i (suc k) = normal_slots cs ts (normal_run cs target (16 * i) (16 * i + get_or ts i 0)) (suc i) k

-- The flags of the first m slots.
abbrev pub turned_slots : List ℤ → List ℕ → List Bool → ℕ → List Bool
turned_slots cs ts flags m = stores false (λ i. i) (λ i x. slot_turned cs ts i) flags 0 m

-- The first elements of an array, copied to another.
abbrev pub copied : List ℕ → List ℕ → ℕ → List ℕ
copied source target count = stores 0 (λ i. i) (λ i x. get_or source i 0) target 0 count

-- ---- The numbers.

-- What the arrays of a working table are.
pub record Laid (cs : List ℤ) (ms ts : List ℕ) : Type 0 where
  pub coefficients : length cs ≡ 1280
  pub monomials : length ms ≡ 1280
  pub counts : length ts ≡ 81
  pub few : (i : ℕ) → get_or ts i 0 ≤ 16

-- Whether the terms at two places are equal, as the book's `same` asks it.
abbrev pub same_term : List ℤ → List ℕ → ℕ → ℕ → Bool
same_term cs ms a b = eqb (get_or ms a 0) (get_or ms b 0) && same_number (get_or cs a (pos 0)) (get_or cs b (pos 0))

-- The first of the k numbers from i on that passes a test; the number behind them if none does.
unfoldable pub first_from : (ℕ → Bool) → ℕ → ℕ → ℕ
first_from test i zero = i
first_from test i (suc k) = let later = first_from test (suc i) k in cond (test i) i later

-- The number of the form in slot i: the first slot with this form.
unfoldable pub number_of : List ℤ → List ℕ → List ℕ → ℕ → ℕ
number_of cs ms ts i = first_from (λ j. same (slot_of cs ms ts j) (slot_of cs ms ts i)) 0 i

-- The numbers of the first m slots.
abbrev pub numbered_slots : List ℤ → List ℕ → List ℕ → List ℕ → ℕ → List ℕ
numbered_slots cs ms ts numbers m = stores 0 (λ i. i) (λ i x. number_of cs ms ts i) numbers 0 m

-- ---- The fillers.

-- Whether slot i holds a form, and no slot before it the same.
unfoldable pub is_own : List ℕ → ℕ → ℕ → Bool
is_own numbers m i = ltb i m && eqb (get_or numbers i 0) i

-- Every other slot gets the filler that no block has, one term with the monomial i + 1: the coefficients, all 0 there,
abbrev pub filled_coefficients : (ℕ → Bool) → List ℤ → List ℤ
filled_coefficients own cs = stores (pos 0) (λ i. 16 * i) (λ i x. cond (own i) x (pos 0)) cs 0 64

-- the monomials,
abbrev pub filled_monomials : (ℕ → Bool) → List ℕ → List ℕ
filled_monomials own ms = stores 0 (λ i. 16 * i) (λ i x. cond (own i) x (i + 1)) ms 0 64

-- and the counts.
abbrev pub filled_counts : (ℕ → Bool) → List ℕ → List ℕ
filled_counts own ts = stores 0 (λ i. i) (λ i x. cond (own i) x 1) ts 0 64

-- ---- The variables.

-- Variable i goes to slot 64 + i: one term, the coefficient 1,
abbrev pub variable_coefficients : ℕ → List ℤ → List ℤ
variable_coefficients n cs = stores (pos 0) (λ i. 16 * (64 + i)) (λ i x. pos 1) cs 0 n

-- the exponent 1 for this variable and 0 for the others,
abbrev pub variable_monomials : ℕ → List ℕ → List ℕ
variable_monomials n ms = stores 0 (λ i. 16 * (64 + i)) (λ i x. 16 ^ (n - suc i)) ms 0 n

-- and the count.
abbrev pub variable_counts : ℕ → List ℕ → List ℕ
variable_counts n ts = stores 0 (λ i. 64 + i) (λ i x. 1) ts 0 n
