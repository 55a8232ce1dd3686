-- Boards one behind the other, sixteen sets of each.
use Rattle.std.specs.Prelude.{◌≡◌, List, ℕ, ◌+◌, ◌*◌, ◌<◌, get_or}
use Rattle.rules.specs.Polynomial.{Board}
use Rattle.terms.specs.View.{few, numbers_from}

-- the board of a round, of n variables
abbrev pub board_at : List ℕ → ℕ → ℕ → Board
board_at boards round n = numbers_from boards (16 * round) (few n)

-- the sets are stored as those of the round, and all before it are as they were
pub record StoredAt (boards sets : List ℕ) (round : ℕ) (more : List ℕ) : Type 0 where
  pub here : (i : ℕ) → i < 16 → get_or more (16 * round + i) 0 ≡ get_or sets i 0
  pub before : (k : ℕ) → k < 16 * round → get_or more k 0 ≡ get_or boards k 0
