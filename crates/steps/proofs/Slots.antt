-- Lists of tokens that name each slot at most once: how they stay so, and that they have at most 64 tokens.
use mathlib.Core.Path.{◌≡◌, refl, sym, ◌∙◌}
use mathlib.Core.List.{List, [], ◌∷◌, ◌++◌, map}
use mathlib.Core.List.Memᴰ.{head as here}
use mathlib.Core.List.Memᴰ.{tail as later}
use mathlib.Core.List.{Memᴰ as Member}
use mathlib.Core.Logic.{⊎_elim}
use Prim.Native.Nat.{ℕ, zero, suc, ◌<◌, ◌≤◌}
use native.Mathlib.Nat.{eq-or-lt_of_le, le_of_suc-le-suc}
use native.Mathlib.Omega.{arith}
use lib.ListN.{length, get_or, set}
use Rattle.sign_laws.specs.Lists.{Every, every_none, every}
use Rattle.length_laws.specs.Pigeonhole.{Distinct, none_distinct, distinct, total, pigeonhole}
use Rattle.tape.specs.Token.{slot}
use Rattle.steps.specs.Tidied.{Absent, Apart}

-- ---- one token more, and another token of the same slot

pub absent_more : (k : ℕ) (l : List ℕ) (x : ℕ) → (slot x ≡ k → ⊥) → Absent k l → Absent k (l ++ (x ∷ []))
unfolding Absent
absent_more k [] x h a = (h, tt)
absent_more k (y ∷ l) x h a = (a.0, absent_more k l x h a.1)

pub apart_more : (l : List ℕ) (x : ℕ) → Absent (slot x) l → Apart l → Apart (l ++ (x ∷ []))
unfolding Absent Apart
apart_more [] x a p = (tt, tt)
apart_more (y ∷ l) x a p = (absent_more (slot y) l x (λ e. a.0 (sym e)) p.0, apart_more l x a.1 p.1)

absent-set : (k : ℕ) (l : List ℕ) (i v : ℕ) → i < length l → slot v ≡ slot (get_or l i 0) → Absent k l → Absent k (set l i v)
unfolding Absent
absent-set k [] i v h e a = absurd (omega arith)
absent-set k (x ∷ l) zero v h e a = (λ z. a.0 (sym e ∙ z), a.1)
absent-set k (x ∷ l) (suc i) v h e a = (a.0, absent-set k l i v (omega arith) e a.1)

pub apart-set : (l : List ℕ) (i v : ℕ) → i < length l → slot v ≡ slot (get_or l i 0) → Apart l → Apart (set l i v)
unfolding Apart
apart-set [] i v h e p = absurd (omega arith)
apart-set (x ∷ l) zero v h e p = (rw (sym e) at p.0, p.1)
apart-set (x ∷ l) (suc i) v h e p = (absent-set (slot x) l i v (omega arith) e p.0, apart-set l i v (omega arith) e p.1)

-- ---- a part of the list

absent-front : (k : ℕ) (l m : List ℕ) → Absent k (l ++ m) → Absent k l
unfolding Absent
absent-front k [] m a = tt
absent-front k (y ∷ l) m a = (a.0, absent-front k l m a.1)

pub apart-front : (l m : List ℕ) → Apart (l ++ m) → Apart l
unfolding Apart
apart-front [] m p = tt
apart-front (x ∷ l) m p = (absent-front (slot x) l m p.0, apart-front l m p.1)

absent-without : (k : ℕ) (l : List ℕ) (x : ℕ) (m : List ℕ) → Absent k (l ++ (x ∷ m)) → Absent k (l ++ m)
unfolding Absent
absent-without k [] x m a = a.1
absent-without k (y ∷ l) x m a = (a.0, absent-without k l x m a.1)

pub apart-without : (l : List ℕ) (x : ℕ) (m : List ℕ) → Apart (l ++ (x ∷ m)) → Apart (l ++ m)
unfolding Apart
apart-without [] x m p = p.1
apart-without (y ∷ l) x m p = (absent-without (slot y) l x m p.0, apart-without l x m p.1)

-- ---- at most as many tokens as slots

absent-slot : {k : ℕ} (l : List ℕ) → Absent k l → Member k (map slot l) → ⊥
unfolding Absent
absent-slot [] a m = elim m [ ]
absent-slot (x ∷ l) a (here e) = a.0 (sym e)
absent-slot (x ∷ l) a (later m) = absent-slot l a.1 m

slots-distinct : (l : List ℕ) → Apart l → Distinct (map slot l)
unfolding Apart
slots-distinct [] p = none_distinct
slots-distinct (x ∷ l) p = distinct (absent-slot l p.0) (slots-distinct l p.1)

-- the numbers below n, of which there are n
below : ℕ → List ℕ
below zero = []
below (suc n) = n ∷ below n

is_below : (n k : ℕ) → k < n → Member k (below n)
unfolding below
is_below zero k h = absurd (omega arith)
is_below (suc n) k h = ⊎_elim (λ (e : k ≡ n). here e) (λ (m : k < n). later (is_below n k m)) (eq-or-lt_of_le (le_of_suc-le-suc h))

one : ℕ → ℕ
one k = 1

below-many : (n : ℕ) → total one (below n) ≡ n
unfolding total below one
below-many zero = refl
below-many (suc n) = omega (arith, below-many n)

slots-many : (l : List ℕ) → total one (map slot l) ≡ length l
unfolding total one
slots-many [] = refl
slots-many (x ∷ l) = omega (arith, slots-many l)

slots-below : (l : List ℕ) → Every (λ (k : ℕ). Member k (below 64)) (map slot l)
slots-below [] = every_none
slots-below (x ∷ l) = every (is_below 64 (slot x) (omega arith)) (slots-below l)

-- tokens that name different slots are at most as many as the slots
pub apart-few : (l : List ℕ) → Apart l → length l ≤ 64
apart-few l p = omega (arith, pigeonhole one (slots-distinct l p) (slots-below l), slots-many l, below-many 64)
