-- A lent list of records that is filled from its first place on: what is so behind the first i of them.
use mathlib.Core.Path.{◌≡◌, refl, ap, ◌∙◌}
use mathlib.Core.List.{List, [], ◌∷◌, ◌++◌}
use Prim.Native.Nat.{ℕ, zero, suc, ◌+◌, ◌<◌, ◌≤◌}
use native.Mathlib.Numerals.{add-one}
use native.Mathlib.Omega.{arith}
use lib.ListN.{length, take, drop, get_or, set, length-set}

pub set_next : {A : Type 0} (d : A) (rs before : List A) (i : ℕ) → i < length rs → i < length before
    → set (take i rs ++ drop i before) i (get_or rs i d) ≡ take (suc i) rs ++ drop (suc i) before
set_next d [] before i h k = absurd (omega arith)
set_next d (r ∷ rs) [] i h k = absurd (omega arith)
set_next d (r ∷ rs) (b ∷ before) zero h k = refl
set_next d (r ∷ rs) (b ∷ before) (suc i) h k = ap (λ l. r ∷ l) (set_next d rs before i (omega arith) (omega arith))

-- the first i are filled
pub record Filling {A : Type 0} (rs before : List A) (count i : ℕ) (list : List A) : Type 0 where
  pub most : i ≤ count
  pub long : length list ≡ length before
  pub is : list ≡ take i rs ++ drop i before

pub filling : {A : Type 0} (rs before : List A) (count : ℕ) → Filling rs before count 0 before
filling rs before count = record { most = omega arith; long = refl; is = refl }

pub filled : {A : Type 0} (d : A) {rs before list : List A} {count i : ℕ} (u : Filling rs before count i list) {r : A} → i < count → count ≤ length rs
    → count ≤ length before → r ≡ get_or rs i d → Filling rs before count (i + 1) (set list i r)
filled d {rs} {before} {list} {count} {i} u {r} less enough room e = record {
  most = omega arith;
  long = length-set list i r ∙ u.long;
  is = rw (u.is, e, add-one) (set_next d rs before i (omega arith) (omega arith));
}

pub filled-all : {A : Type 0} {rs before list : List A} {count i : ℕ} (u : Filling rs before count i list) → count ≤ i
    → list ≡ take count rs ++ drop count before
filled-all {rs = rs} {before} {count = count} {i} u over = let same : i ≡ count = omega (arith, u.most) in u.is ∙ ap (λ (k : ℕ). take k rs ++ drop k before) same
