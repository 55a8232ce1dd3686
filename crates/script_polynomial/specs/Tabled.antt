-- The table so far in lent arrays, and what `known_polynomial` says: the polynomial of an atom is read as the book reads it behind the known ones,
-- and the arrays hold the table with it.
use Rattle.std.specs.Prelude.{List, map, ◌≡◌, ℕ, ◌+◌, ◌-◌, ◌<◌, ◌≤◌, ℤ, length, drop, Result, Ok, Err}
use Rattle.std.proofs.lemmas.List.Edits.{sets}
use Rattle.rules.specs.Polynomial.{Polynomial}
use Rattle.rules.specs.Limits.{TableWithin}
use Rattle.rules.specs.Answer.{number_in}
use Rattle.block.specs.Held.{slots}
use Rattle.script_laws.specs.Known.{with}
use Rattle.rules.specs.Reading.{known_polynomial}
use Rattle.script_polynomial.specs.At.{Stops, Reaches}
use Rattle.script_polynomial.specs.Slots.{spaced_text, agreement}
use Rattle.script_polynomial.specs.declared.Piece.{Piece}
use Rattle.script_polynomial.specs.declared.Stop.{Stop}

-- A table of polynomials of n variables, stored over what the arrays held before: as `block::read` stores it.
pub record Tabled (n : ℕ) (cs₀ : List ℤ) (ms₀ ts₀ : List ℕ) (table : List Polynomial) (cs : List ℤ) (ms ts : List ℕ) : Type 0 where
  pub some_variables : 0 < n
  pub variables : n ≤ 16
  pub polynomials : length table ≤ 64
  pub within : TableWithin n table
  pub coefficients : length cs₀ ≡ 1024
  pub monomials : length ms₀ ≡ 1024
  pub counts : length ts₀ ≡ 64
  pub coefficient : cs ≡ slots (λ t. t.coefficient) 0 table cs₀
  pub monomial : ms ≡ slots (λ t. t.monomial) 0 table ms₀
  pub terms : ts ≡ sets ts₀ 0 (map length table)

-- The arrays hold some table, of so many polynomials.
pub record SomeTabled (n known : ℕ) (cs : List ℤ) (ms ts : List ℕ) : Type 0 where
  pub coefficients_before : List ℤ
  pub monomials_before : List ℕ
  pub counts_before : List ℕ
  pub table : List Polynomial
  pub tabled : Tabled n coefficients_before monomials_before counts_before table cs ms ts
  pub counted : length table ≡ known

-- The polynomial that was read: its number, how many are known with it, and the arrays that hold these.
pub record Listed (text : List ℕ) (at n : ℕ) (cs₀ : List ℤ) (ms₀ ts₀ : List ℕ) (table : List Polynomial) (cs' : List ℤ) (ms' ts' : List ℕ)
    (number known behind : ℕ) : Type 0 where
  pub polynomial : Polynomial
  pub reaches : Reaches text at (known_polynomial n table) polynomial behind
  pub numbered : number ≡ number_in (with table polynomial) polynomial
  pub small : number < known
  pub counted : length (with table polynomial) ≡ known
  pub tabled : Tabled n cs₀ ms₀ ts₀ (with table polynomial) cs' ms' ts'

unfoldable pub PieceOf : List ℕ → ℕ → ℕ → List ℤ → List ℕ → List ℕ → List Polynomial → List ℤ → List ℕ → List ℕ → Result Piece Stop → Type 0
PieceOf text at n cs₀ ms₀ ts₀ table cs' ms' ts' (Err stop) = Stops text at (known_polynomial n table) stop.at
    × Tabled n cs₀ ms₀ ts₀ table cs' ms' ts'
PieceOf text at n cs₀ ms₀ ts₀ table cs' ms' ts' (Ok piece) = Listed text at n cs₀ ms₀ ts₀ table cs' ms' ts' piece.number piece.known piece.behind

-- For whichever table the arrays held.
pub record PieceFound (text : List ℕ) (at n known : ℕ) (cs cs' : List ℤ) (ms ms' ts ts' : List ℕ) (piece : Result Piece Stop) : Type 0 where
  pub found : (cs₀ : List ℤ) (ms₀ ts₀ : List ℕ) (table : List Polynomial) → Tabled n cs₀ ms₀ ts₀ table cs ms ts → length table ≡ known
      → PieceOf text at n cs₀ ms₀ ts₀ table cs' ms' ts' piece

-- ---- Where reading stops: at a position where it stops whatever is known, or sooner, where the text leaves the texts of all 64.

abbrev pub smaller : ℕ → ℕ → ℕ
smaller a b = a - (a - b)

pub record StopsAmong (text : List ℕ) (at n known : ℕ) (cs : List ℤ) (ms ts : List ℕ) (position r : ℕ) : Type 0 where
  pub with_room : known < 64 → r ≡ position
  pub full : 64 ≤ known → (cs₀ : List ℤ) (ms₀ ts₀ : List ℕ) (table : List Polynomial) → Tabled n cs₀ ms₀ ts₀ table cs ms ts → length table ≡ known
      → r ≡ smaller position (at + agreement (map (spaced_text n) table) (drop at text))
