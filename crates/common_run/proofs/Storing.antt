-- The sets of a board stored among those of others, and read back.
use mathlib.Core.Path.{◌≡◌, refl, ap}
use mathlib.Core.List.{List, ◌∷◌}
use Prim.Native.Nat.{ℕ, zero, suc, ◌+◌, ◌*◌, ◌<◌, ◌≤◌}
use native.Mathlib.Nat.{add-zero}
use native.Mathlib.Omega.{arith}
use Rattle.std.proofs.Common.{take, drop, get_or-take, get_or-drop}
use lib.ListN.{get_or}
use Rattle.terms.specs.View.{few, numbers_from}
use Rattle.common_run.specs.Boards.{board_at, StoredAt}

-- numbers that are the same place by place
pub numbers-same : (xs ys : List ℕ) (i j k : ℕ) → ((x : ℕ) → x < k → get_or xs (i + x) 0 ≡ get_or ys (j + x) 0) → numbers_from xs i k ≡ numbers_from ys j k
unfolding numbers_from
numbers-same xs ys i j zero h = refl
numbers-same xs ys i j (suc k) h =
    let first : get_or xs i 0 ≡ get_or ys j 0 = rw (add-zero i, add-zero j) at (h 0 (omega arith)) in
    rw first (ap (λ (l : List ℕ). get_or ys j 0 ∷ l) (numbers-same xs ys (suc i) (suc j) k (λ x l.
    let e : suc i + x ≡ i + suc x = omega arith in
    let f : suc j + x ≡ j + suc x = omega arith in
    rw (e, f) (h (suc x) (omega arith)))))

-- ---- stored

-- the board of the round, and those before it
module _ {boards sets : List ℕ} {round : ℕ} {more : List ℕ} (s : StoredAt boards sets round more) (n : ℕ) where
  pub board-here : board_at more round n ≡ numbers_from sets 0 (few n)
  board-here = numbers-same more sets (16 * round) 0 (few n) (λ x l. let e : 0 + x ≡ x = omega arith in rw e (s.here x (omega arith)))

  pub board-before : (i : ℕ) → i < round → board_at more i n ≡ board_at boards i n
  board-before i h = numbers-same more boards (16 * i) (16 * i) (few n) (λ x l. s.before (16 * i + x) (omega arith))

-- ---- read back

pub read-back : (boards : List ℕ) (round n : ℕ) {left : List ℕ} (k : ℕ) → 16 ≤ k → left ≡ take k (drop (16 * round) boards)
    → numbers_from left 0 (few n) ≡ board_at boards round n
read-back boards round n {left} k h e =
    numbers-same left boards 0 (16 * round) (few n)
    (λ x l. let z : 0 + x ≡ x = omega arith in
    rw (z, e, get_or-take k (drop (16 * round) boards) x 0 (omega arith)) (get_or-drop (16 * round) boards x 0))
