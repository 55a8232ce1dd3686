-- Lists of tokens in which all but the first of a slot have the empty set: how they stay so, and that those with no empty set have at most 64 tokens.
use Rattle.std.specs.Prelude.{◌≡◌, refl, List, [], ◌∷◌, ◌++◌, map, ℕ, zero, suc, ◌%◌, ◌<◌, ◌≤◌, length, get_or, set, drop}
use Rattle.std.proofs.Common.{sym, ◌∙◌, ⊎_elim, eq-or-lt_of_le, le_of_suc-le-suc, arith}
use mathlib.Core.List.Memᴰ.{head as here}
use mathlib.Core.List.Memᴰ.{tail as later}
use mathlib.Core.List.{Memᴰ as Member}
use Rattle.sign_laws.specs.Lists.{Every, every_none, every}
use Rattle.length_laws.specs.Pigeonhole.{Distinct, none_distinct, distinct, total, pigeonhole}
use Rattle.tape.specs.Token.{slot}
use Rattle.merging.specs.Merged.{EmptyAt, Sparse}

-- ---- One token more, and another token of the same slot.

-- If the token shares its slot with one of the list, it has the empty set.
unfoldable pub Fits : ℕ → List ℕ → Type 0
Fits x [] = Unit {0}
Fits x (y ∷ l) = (slot x ≡ slot y → x % 8 ≡ 0) × Fits x l

pub fits-empty : (x : ℕ) → x % 8 ≡ 0 → (l : List ℕ) → Fits x l
unfolding Fits
fits-empty x e [] = tt
fits-empty x e (y ∷ l) = (λ z. e, fits-empty x e l)

pub fits_more : (x : ℕ) (l : List ℕ) (y : ℕ) → (slot y ≡ slot x → ⊥) → Fits x l → Fits x (l ++ (y ∷ []))
unfolding Fits
fits_more x [] y h f = (λ e. absurd (h (sym e)), tt)
fits_more x (z ∷ l) y h f = (f.0, fits_more x l y h f.1)

empty-more : (k : ℕ) (l : List ℕ) (x : ℕ) → (slot x ≡ k → x % 8 ≡ 0) → EmptyAt k l → EmptyAt k (l ++ (x ∷ []))
unfolding EmptyAt
empty-more k [] x h a = (h, tt)
empty-more k (y ∷ l) x h a = (a.0, empty-more k l x h a.1)

pub sparse-more : (l : List ℕ) (x : ℕ) → Fits x l → Sparse l → Sparse (l ++ (x ∷ []))
unfolding EmptyAt Sparse Fits
sparse-more [] x f p = (tt, tt)
sparse-more (y ∷ l) x f p = (empty-more (slot y) l x f.0 p.0, sparse-more l x f.1 p.1)

empty-set : (k : ℕ) (l : List ℕ) (i v : ℕ) → i < length l → slot v ≡ slot (get_or l i 0) → (get_or l i 0 % 8 ≡ 0 → v % 8 ≡ 0) → EmptyAt k l
    → EmptyAt k (set l i v)
unfolding EmptyAt
empty-set k [] i v h e z a = absurd (omega arith)
empty-set k (x ∷ l) zero v h e z a = (λ q. z (a.0 (sym e ∙ q)), a.1)
empty-set k (x ∷ l) (suc i) v h e z a = (a.0, empty-set k l i v (omega arith) e z a.1)

pub sparse-set : (l : List ℕ) (i v : ℕ) → i < length l → slot v ≡ slot (get_or l i 0) → (get_or l i 0 % 8 ≡ 0 → v % 8 ≡ 0) → Sparse l → Sparse (set l i v)
unfolding Sparse
sparse-set [] i v h e z p = absurd (omega arith)
sparse-set (x ∷ l) zero v h e z p = (rw (sym e) at p.0, p.1)
sparse-set (x ∷ l) (suc i) v h e z p = (empty-set (slot x) l i v (omega arith) e z p.0, sparse-set l i v (omega arith) e z p.1)

-- ---- A part of the list.

empty-without : (k : ℕ) (l : List ℕ) (x : ℕ) (m : List ℕ) → EmptyAt k (l ++ (x ∷ m)) → EmptyAt k (l ++ m)
unfolding EmptyAt
empty-without k [] x m a = a.1
empty-without k (y ∷ l) x m a = (a.0, empty-without k l x m a.1)

pub sparse-without : (l : List ℕ) (x : ℕ) (m : List ℕ) → Sparse (l ++ (x ∷ m)) → Sparse (l ++ m)
unfolding Sparse
sparse-without [] x m p = p.1
sparse-without (y ∷ l) x m p = (empty-without (slot y) l x m p.0, sparse-without l x m p.1)

pub sparse-drop : (r : ℕ) (l : List ℕ) → Sparse l → Sparse (drop r l)
unfolding Sparse
sparse-drop zero l p = p
sparse-drop (suc r) [] p = tt
sparse-drop (suc r) (x ∷ l) p = sparse-drop r l p.1

-- ---- Where no set is empty: at most as many tokens as slots.

-- No set is empty.
unfoldable pub Filled : List ℕ → Type 0
Filled [] = Unit {0}
Filled (x ∷ l) = (x % 8 ≡ 0 → ⊥) × Filled l

pub filled-all : (l : List ℕ) → ((j : ℕ) → j < length l → get_or l j 0 % 8 ≡ 0 → ⊥) → Filled l
unfolding Filled
filled-all [] h = tt
filled-all (x ∷ l) h = (h 0 (omega arith), filled-all l (λ j k. h (suc j) (omega arith)))

absent-slot : {k : ℕ} (l : List ℕ) → EmptyAt k l → Filled l → Member k (map slot l) → ⊥
unfolding EmptyAt Filled
absent-slot {k = k} [] a f m = elim m [ ]
absent-slot (x ∷ l) a f (here e) = f.0 (a.0 (sym e))
absent-slot (x ∷ l) a f (later m) = absent-slot l a.1 f.1 m

slots-distinct : (l : List ℕ) → Sparse l → Filled l → Distinct (map slot l)
unfolding Sparse Filled
slots-distinct [] p f = none_distinct
slots-distinct (x ∷ l) p f = distinct (absent-slot l p.0 f.1) (slots-distinct l p.1 f.1)

below : ℕ → List ℕ
below zero = []
below (suc n) = n ∷ below n

is_below : (n k : ℕ) → k < n → Member k (below n)
unfolding below
is_below zero k h = absurd (omega arith)
is_below (suc n) k h = ⊎_elim (λ (e : k ≡ n). here e) (λ (m : k < n). later (is_below n k m)) (eq-or-lt_of_le (le_of_suc-le-suc h))

one : ℕ → ℕ
one k = 1

below-many : (n : ℕ) → total one (below n) ≡ n
unfolding total below one
below-many zero = refl
below-many (suc n) = omega (arith, below-many n)

slots-many : (l : List ℕ) → total one (map slot l) ≡ length l
unfolding total one
slots-many [] = refl
slots-many (x ∷ l) = omega (arith, slots-many l)

slots-below : (l : List ℕ) → Every (λ (k : ℕ). Member k (below 64)) (map slot l)
slots-below [] = every_none
slots-below (x ∷ l) = every (is_below 64 (slot x) (omega arith)) (slots-below l)

pub sparse-few : (l : List ℕ) → Sparse l → Filled l → length l ≤ 64
sparse-few l p f = omega (arith, pigeonhole one (slots-distinct l p f) (slots-below l), slots-many l, below-many 64)
