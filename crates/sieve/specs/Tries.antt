-- The tries of a pair by its rows: which tests a row bars, and that each try that a set allows is barred by some row.
use Rattle.std.specs.Prelude.{◌≡◌, Bool, true, false, ◌&&◌, ℕ, ◌+◌, ◌<◌, ◌≤◌, ℤ, pos, ◌+ℤ◌, ◌-ℤ◌, ◌*ℤ◌, length, get_or}
use Rattle.rules.specs.Signs.{Sign, negative, nought, positive, SignSet, sign_of, Kind, kind, has, mirror_of_sign}
use Rattle.rules.specs.TwoAtoms.{non_positive, non_negative}
use Rattle.deduction_laws.specs.FractionSets.{Side, L, U}
use Rattle.masks.specs.Masks.{cuts}
use Rattle.masks.specs.Weights.{against}
use Rattle.two_atoms.specs.Tries.{factor_at}
use Rattle.sieve.specs.Rows.{Rows}

-- a coefficient with the sign x makes a monomial with the set s one that can have the sign z
unfoldable pub bars : Sign → Sign → SignSet → Bool
bars negative z s = has (mirror_of_sign z) s
bars nought z s = false
bars positive z s = has z s

-- the mirrored test, or ≥
abbrev pub side_of : Bool → Side
side_of true = U
side_of false = L

-- a set has the sign that bars a test
unfoldable pub can_be : Bool → SignSet → Bool
can_be lowers s = has (against (side_of lowers)) s

-- where the answer is true, the row bars the test
pub record RowBars (a b c : ℤ) (s : SignSet) (u w : ℤ) (lowers answer : Bool) : Type 0 where
  pub barred : answer ≡ true → bars (sign_of (a +ℤ u *ℤ b -ℤ w *ℤ c)) (against (side_of lowers)) s ≡ true

-- ---- the first n rows

pub record Held (r : Rows) (n : ℕ) : Type 0 where
  pub first : n ≤ length r.first
  pub second : n ≤ length r.second
  pub third : n ≤ length r.third
  pub signs : n ≤ length r.signs

-- the coefficient in row i, with the factors u and -w
abbrev pub sum_at : Rows → ℕ → ℤ → ℤ → ℤ
sum_at r i u w = get_or r.first i (pos 0) +ℤ u *ℤ get_or r.second i (pos 0) -ℤ w *ℤ get_or r.third i (pos 0)

-- a row bars a test
pub record Caught (r : Rows) (n : ℕ) (side : Side) (u w : ℤ) : Type 0 where
  pub at : ℕ
  pub low : at < n
  pub barred : bars (sign_of (sum_at r at u w)) (against side) (get_or r.signs at 0) ≡ true

pub record Wrapped (n i : ℕ) : Type 0 where
  pub low : 0 < n → i < n

-- a number below n is said only where the tries are barred
pub record Stopped (r : Rows) (n : ℕ) (u w : ℤ) (lowers : Bool) (k : ℕ) : Type 0 where
  pub caught : k < n → Caught r n (side_of lowers) u w

pub record StoppedAll (r : Rows) (n : ℕ) (u : ℤ) (from to : ℕ) (lowers : Bool) (k : ℕ) : Type 0 where
  pub caught : k < n → (j : ℕ) → from ≤ j → j < to → Caught r n (side_of lowers) u (factor_at j)

pub record StoppedBoth (r : Rows) (n first last from to : ℕ) (lowers : Bool) (k : ℕ) : Type 0 where
  pub caught : k < n → (i : ℕ) → first ≤ i → i < last → (j : ℕ) → from ≤ j → j < to → Caught r n (side_of lowers) (factor_at i) (factor_at j)

pub record StoppedHalves (r : Rows) (n first from : ℕ) (allowed lowers : Bool) (k : ℕ) : Type 0 where
  pub caught : allowed ≡ true → StoppedBoth r n first (first + 4) from (from + 4) lowers k

-- ---- the signs of the factors

-- the factors above 0, or those below, are allowed by q's set
unfoldable pub half_of : Side → Bool → Kind → Bool
half_of L true k = non_positive k
half_of L false k = non_negative k
half_of U true k = non_negative k
half_of U false k = non_positive k

-- the indices of the u and of the w, v being -w, by the signs of u and v
abbrev pub first_of : Bool → ℕ
first_of true = 4
first_of false = 0

abbrev pub from_of : Bool → ℕ
from_of true = 0
from_of false = 4

-- where the answer is false, each try that the sets allow is barred, if the test can cut the set
pub record PassedTest (r : Rows) (n : ℕ) (set1 set2 : SignSet) (cuts lowers answer : Bool) : Type 0 where
  pub caught : answer ≡ false → cuts ≡ true → (above1 above2 : Bool)
      → half_of (side_of lowers) above1 (kind set1) && half_of (side_of lowers) above2 (kind set2) ≡ true
      → (i : ℕ) → first_of above1 ≤ i → i < first_of above1 + 4 → (j : ℕ) → from_of above2 ≤ j → j < from_of above2 + 4
      → Caught r n (side_of lowers) (factor_at i) (factor_at j)

-- where the answer is false, each try that the sets allow and that can cut the set is barred
pub record PassedPair (r : Rows) (n : ℕ) (set1 set2 set : SignSet) (answer : Bool) : Type 0 where
  pub caught : answer ≡ false → (above1 above2 : Bool) (side : Side)
      → cuts side set && (half_of side above1 (kind set1) && half_of side above2 (kind set2)) ≡ true
      → (i : ℕ) → first_of above1 ≤ i → i < first_of above1 + 4 → (j : ℕ) → from_of above2 ≤ j → j < from_of above2 + 4
      → Caught r n side (factor_at i) (factor_at j)
