-- Laws about the sets of a board: one read, one changed, and what a variable's turn makes of them.
-- The turns of all variables are walked one at a time.
use Rattle.std.specs.Prelude.{◌≡◌, refl, List, ◌∷◌, length, get_or, set}
use Rattle.std.proofs.Common.{sym, ◌∙◌, ap, subst, add-zero, zero-add, get_or-set_same, get_or-set_other}
use Prim.Native.Nat.{ℕ, zero, suc, ◌+◌, ◌-◌, ◌<◌, ◌≤◌}
use Rattle.std.proofs.Math.Numerals.{add-one}
use native.Mathlib.Omega.{arith}
use Rattle.std.proofs.lemmas.List.{set-get_or}
use Rattle.rules.specs.Signs.{SignSet, full}
use Rattle.rules.specs.Polynomial.{Atom, Board, variable}
use Rattle.rules.specs.Rounds.{cut_by, turn, turns}
use Rattle.terms.specs.View.{numbers_from}

set_before : (xs : List ℕ) (a v i k : ℕ) → a < i → numbers_from (set xs a v) i k ≡ numbers_from xs i k
unfolding numbers_from
set_before xs a v i zero h = refl
set_before xs a v i (suc k) h =
    rw (get_or-set_other xs a i v 0 (λ (e : i ≡ a). omega arith)) (ap (λ (l : List ℕ). get_or xs i 0 ∷ l) (set_before xs a v (suc i) k (omega arith)))

set_first : (xs : List ℕ) (v i k : ℕ) → i < length xs → numbers_from (set xs i v) i (suc k) ≡ set (numbers_from xs i (suc k)) 0 v
unfolding numbers_from
set_first xs v i k h = rw (get_or-set_same xs i v 0 h) (ap (λ (t : List ℕ). v ∷ t) (set_before xs i v (suc i) k (omega arith)))

set-within : (xs : List ℕ) (v i j k : ℕ) → j < k → i + j < length xs → numbers_from (set xs (i + j) v) i k ≡ set (numbers_from xs i k) j v
unfolding numbers_from
set-within xs v i j zero h l = absurd (omega arith)
set-within xs v i zero (suc k) h l =
    subst (λ (m : ℕ). numbers_from (set xs m v) i (suc k) ≡ set (numbers_from xs i (suc k)) 0 v) (sym (add-zero i)) (set_first xs v i k (omega arith))
set-within xs v i (suc j) (suc k) h l =
    let e : i + suc j ≡ suc i + j = omega arith in
    subst (λ (m : ℕ). numbers_from (set xs m v) i (suc k) ≡ set (numbers_from xs i (suc k)) (suc j) v) (sym e)
    (rw (get_or-set_other xs (suc i + j) i v 0 (λ (q : i ≡ suc i + j). omega arith))
    (ap (λ (t : List ℕ). get_or xs i 0 ∷ t) (set-within xs v (suc i) j k (omega arith) (omega arith))))

at-within : (xs : List ℕ) (i j k d : ℕ) → j < k → get_or (numbers_from xs i k) j d ≡ get_or xs (i + j) 0
unfolding numbers_from
at-within xs i j zero d h = absurd (omega arith)
at-within xs i zero (suc k) d h = rw (add-zero i)
at-within xs i (suc j) (suc k) d h =
    let e : i + suc j ≡ suc i + j = omega arith in
    rw e (at-within xs (suc i) j k d (omega arith))

-- the set of variable i of n, read and changed
module _ (sets : List SignSet) (i n : ℕ) (low : i < n) where
  pub set_at : get_or (numbers_from sets 0 n) i full ≡ get_or sets i 0
  set_at = rw (zero-add i) at (at-within sets 0 i n full low)

  pub changed-at : (v : SignSet) → i < length sets → numbers_from (set sets i v) 0 n ≡ set (numbers_from sets 0 n) i v
  changed-at v h = rw (zero-add i) at (set-within sets v 0 i n low (omega arith))

-- ---- a variable's turn, to the set v

module _ (n : ℕ) (sets : List SignSet) (i k : ℕ) (low : i < k) (atoms : List Atom) {v : SignSet}
    (cut : v ≡ cut_by (numbers_from sets 0 k) (variable n i) atoms (get_or sets i 0)) where
  turned-to : turn n atoms (numbers_from sets 0 k) i ≡ set (numbers_from sets 0 k) i v
  unfolding turn
  turned-to = rw (set_at sets i k low, cut)

  pub turn-changes : i < length sets → numbers_from (set sets i v) 0 k ≡ turn n atoms (numbers_from sets 0 k) i
  turn-changes h = changed-at sets i k low v h ∙ sym turned-to

  pub turn-keeps : v ≡ get_or sets i 0 → numbers_from sets 0 k ≡ turn n atoms (numbers_from sets 0 k) i
  turn-keeps e =
      sym (turned-to ∙ ap (λ (x : SignSet). set (numbers_from sets 0 k) i x) (e ∙ sym (set_at sets i k low)) ∙ set-get_or (numbers_from sets 0 k) i full)

-- ---- the turns that are left

module _ (n : ℕ) (atoms : List Atom) (board : Board) (i m : ℕ) where
  pub turns-step : i < m → turns n atoms board i (m - i) ≡ turns n atoms (turn n atoms board i) (i + 1) (m - (i + 1))
  unfolding turns
  turns-step h = let e : m - i ≡ suc (m - (i + 1)) = omega arith in rw (e, add-one i)

  pub turns-end : m ≤ i → turns n atoms board i (m - i) ≡ board
  unfolding turns
  turns-end h = let e : m - i ≡ 0 = omega arith in rw e
