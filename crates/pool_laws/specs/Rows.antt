-- Rows of marks: how many are true, when one is set, and when none is.
use Rattle.std.specs.Prelude.{◌≡◌, refl, Bool, true, false, List, [], ◌∷◌, map, ℕ, zero, suc, ◌<◌, ◌≤◌, length, get_or, set, replicate}
use Rattle.std.proofs.Common.{ap, ◌∙◌, arith}
use Rattle.std.proofs.lemmas.Bool.{false≢true}
use Rattle.rules.specs.Pool.{count}

-- A mark that is set is one.
pub count-marked : (row : List Bool) (i : ℕ) → i < length row → 0 < count (set row i true)
unfolding count
count-marked [] i h = absurd (omega arith)
count-marked (b ∷ row) zero h = omega arith
count-marked (true ∷ row) (suc i) h = omega arith
count-marked (false ∷ row) (suc i) h = count-marked row i (omega arith)

-- A mark that is taken away adds none.
pub count-unmarked : (row : List Bool) (i : ℕ) → count (set row i false) ≤ count row
unfolding count
count-unmarked [] i = omega arith
count-unmarked (true ∷ row) zero = omega arith
count-unmarked (false ∷ row) zero = omega arith
count-unmarked (true ∷ row) (suc i) = omega (arith, count-unmarked row i)
count-unmarked (false ∷ row) (suc i) = count-unmarked row i

-- A row without a mark is false everywhere.
pub no-marks : (row : List Bool) → count row ≡ 0 → row ≡ replicate (length row) false
unfolding count
no-marks [] e = refl
no-marks (true ∷ row) e = absurd (omega arith)
no-marks (false ∷ row) e = ap (λ (r : List Bool). false ∷ r) (no-marks row e)

pub count_none : (n : ℕ) → count (replicate n false) ≡ 0
unfolding count
count_none zero = refl
count_none (suc n) = count_none n

-- Where one stands, there is one.
pub count-some : (row : List Bool) (i : ℕ) → get_or row i false ≡ true → 0 < count row
unfolding count
count-some [] i e = absurd (false≢true e)
count-some (true ∷ row) i e = omega arith
count-some (false ∷ row) zero e = absurd (false≢true e)
count-some (false ∷ row) (suc i) e = count-some row i e

-- What each element becomes, when one is set.
pub map-set : {A B : Type 0} (f : A → B) (l : List A) (i : ℕ) (a : A) → map f (set l i a) ≡ set (map f l) i (f a)
map-set f [] i a = refl
map-set f (b ∷ l) zero a = refl
map-set {B = B} f (b ∷ l) (suc i) a = ap (λ (r : List B). f b ∷ r) (map-set f l i a)

-- To set what is there changes nothing.
pub set_same : {A : Type 0} (l : List A) (i : ℕ) (d a : A) → i < length l → get_or l i d ≡ a → set l i a ≡ l
set_same [] i d a h e = refl
set_same {A} (b ∷ l) zero d a h e = ap (λ (x : A). x ∷ l) (cc)
set_same {A} (b ∷ l) (suc i) d a h e = ap (λ (r : List A). b ∷ r) (set_same l i d a (omega arith) e)
