-- What is said of bytes that must stand at a position, and laws of reading a next byte.
use Rattle.std.specs.Prelude.{List, ◌≡◌, ℕ, ◌+◌, ◌≤◌, length, drop, Result, Ok, Err}
use Rattle.rules.specs.Reader.{Reader, give}
use Rattle.rules.specs.Combine.{say}
use Rattle.script_laws.specs.Steps.{got, stop}
use Rattle.script_polynomial.specs.At.{read_at}
use Rattle.script_polynomial.specs.declared.Stop.{Stop}

-- A reader of these bytes and no others.
abbrev pub just : List ℕ → Reader ℕ
just bytes = say bytes (give 0)

-- The bytes stand there: what may follow them is read behind them.
pub record Stand (text : List ℕ) (at : ℕ) (bytes : List ℕ) (next : ℕ) : Type 0 where
  pub reading : read_at text at (just bytes) ≡ got 0 next (drop next text)
  pub behind : next ≡ at + length bytes
  pub inside : next ≤ length text

unfoldable pub SaidBy : List ℕ → ℕ → List ℕ → Result ℕ Stop → Type 0
SaidBy text at bytes (Err halt) = read_at text at (just bytes) ≡ stop halt.at
SaidBy text at bytes (Ok next) = Stand text at bytes next

pub record Said (text : List ℕ) (at : ℕ) (bytes : List ℕ) (step : Result ℕ Stop) : Type 0 where
  pub by_step : SaidBy text at bytes step
