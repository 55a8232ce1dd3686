-- Who takes a sign out of a set: no atom, those of one slot alone, or those of several.
use Rattle.std.specs.Prelude.{◌≡◌, true, List, ◌⊎◌, ℕ, suc, ◌/◌, ◌%◌, ◌<◌, get_or}
use Rattle.rules.specs.Signs.{Sign, negative, nought, positive, only}
use Rattle.common_run.specs.declared.takers.Takers.{Takers}
use Rattle.common_run.specs.Marks.{marked_by, Grows}

unfoldable pub taker_of : Takers → Sign → ℕ
taker_of takers negative = takers.negative
taker_of takers nought = takers.nought
taker_of takers positive = takers.positive

-- r is who takes a sign out, after an atom of slot k: as before, if the atom leaves the sign's bit; otherwise some atom takes it out, and one of
-- another slot than x, if r is not those of slot x alone
pub record Taker (by before after k r : ℕ) : Type 0 where
  pub same : before ≡ after → r ≡ by
  pub some : (before ≡ after → ⊥) → r ≡ 0 → ⊥
  pub other : (before ≡ after → ⊥) → (x : ℕ) → x < 64 → (r ≡ suc x → ⊥) → (k ≡ x → ⊥) ⊎ ((by ≡ 0 → ⊥) × (by ≡ suc x → ⊥))

-- of each sign of a set that the atom cuts
pub record Taken (takers : Takers) (old cut k : ℕ) (r : Takers) : Type 0 where
  pub each : (s : Sign) → Taker (taker_of takers s) (old / only s % 2) (cut / only s % 2) k (taker_of r s)

-- the slot is marked whose atoms alone take a sign out
pub record SoleMarked (marks : List ℕ) (by round : ℕ) (more : List ℕ) : Type 0 where
  pub grows : Grows marks more
  pub here : (k : ℕ) → k < 64 → by ≡ suc k → marked_by (get_or more k 0) round ≡ true

-- of each sign
pub record NeededMarked (marks : List ℕ) (takers : Takers) (round : ℕ) (more : List ℕ) : Type 0 where
  pub grows : Grows marks more
  pub here : (s : Sign) (k : ℕ) → k < 64 → taker_of takers s ≡ suc k → marked_by (get_or more k 0) round ≡ true
