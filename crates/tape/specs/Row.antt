-- What a row of tokens holds: the list of its first tokens, as many as its count says.
use Rattle.std.specs.Prelude.{◌≡◌, List, ℕ, ◌≤◌, length, take, get_or}
use Rattle.tape.specs.declared.rows.Row.{Row}

-- The row that tokens make with a count.
abbrev pub row_of : List ℕ → ℕ → Row
row_of token count = record { token = token; count = count }

pub record Lists (row : Row) (tokens : List ℕ) : Type 0 where
  pub is : take row.count row.token ≡ tokens
  pub size : row.count ≡ length tokens

-- From a place on, tokens are what they were before.
pub record Ahead (tokens before : List ℕ) (i : ℕ) : Type 0 where
  pub is : (j : ℕ) → i ≤ j → get_or tokens j 0 ≡ get_or before j 0
