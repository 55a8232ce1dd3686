-- The laws of deduction at whole numbers: readings of the variables whose signs fit the board.
-- A polynomial's sign at the readings is in what its terms give, and in what is deduced from an atom that holds there.
use Rattle.std.specs.Prelude.{◌≡◌, refl, true, false, List, [], ◌∷◌, ℕ, zero, suc, ◌-◌, ◌^◌, ◌≤◌, ◌<◌, ℤ, pos, ◌*ℤ◌, length, get_or}
use Rattle.std.proofs.Common.{sym, ap, ap₂, ◌∙◌, arith}
use Rattle.std.proofs.Math.IntN.{one, pow, *ℤ-one, +ℤ_idr}
use Rattle.whole.specs.Differences.{one-*ℤ, *ℤ-assoc}
use Rattle.rules.specs.Signs.{sign_of, positive, SignSet, open_signs}
use Rattle.rules.specs.Polynomial.{Polynomial, Atom, Board, exponent, monomial_sign_from, monomial_sign, by_terms, variable}
use Rattle.rules.specs.Deduce.{any_empty, deduce}
use Rattle.rules.specs.TwoAtoms.{tries}
use Rattle.rules.specs.Meaning.{monomial_at, value_by, sign_at, atom_holds}
use Rattle.sign_laws.specs.Lists.{Every, every-wider}
use Rattle.sign_laws.specs.Sets.{◌In◌, not_empty}
use Rattle.sign_laws.specs.Whole.{◌∈◌, by_sign, by_equal}
use Rattle.deduction_laws.specs.Monomials.{exponent-own, exponent-behind, exponent-before}
use Rattle.deduction_laws.specs.Terms.{multiplied-sound, terms-sound}
use Rattle.deduction_laws.specs.Deduction.{deduce-sound}
use Rattle.deduction_laws.specs.TwoAtoms.{tries-sound}

-- Each reading has a sign of its variable's set.
pub data Fits : List ℤ → Board → Type 0 where
  no_readings : Fits [] []
  reading : {x : ℤ} {set : SignSet} {xs : List ℤ} {board : Board} → x ∈ set → Fits xs board → Fits (x ∷ xs) (set ∷ board)

-- There is a reading for each variable of the board.
pub same_length : {xs : List ℤ} {board : Board} → Fits xs board → length xs ≡ length board
same_length no_readings = refl
same_length (reading h hs) = ap suc (same_length hs)

-- ---- The monomials have signs of the board.

monomial-from : (m : ℕ) {xs : List ℤ} {board : Board} → Fits xs board → {z : ℤ} {sofar : SignSet} → z ∈ sofar → z *ℤ monomial_at xs m ∈ monomial_sign_from sofar board m
unfolding monomial_at monomial_sign_from one
monomial-from m no_readings {z} h = by_equal (*ℤ-one z) h
monomial-from m (reading {x} {set} {xs} {board} k ks) {z} h =
    by_equal (sym (*ℤ-assoc z (pow x (exponent m (length xs))) (monomial_at xs m)) ∙ ap (λ (n : ℕ). z *ℤ pow x (exponent m n) *ℤ monomial_at xs m) (same_length ks))
    (monomial-from m ks (multiplied-sound (exponent m (length board)) h k))

-- Each monomial has a sign of its set on the board.
pub monomial-sound : {xs : List ℤ} {board : Board} → Fits xs board → (m : ℕ) → monomial_at xs m ∈ monomial_sign board m
unfolding monomial_sign open_signs one
monomial-sound {xs} fit m = by_equal (sym (one-*ℤ (monomial_at xs m))) (monomial-from m fit {z = pos 1} (by_sign positive refl refl))

-- No set of a board that readings fit is empty.
pub none-empty : {xs : List ℤ} {board : Board} → Fits xs board → any_empty board ≡ false
unfolding any_empty
none-empty no_readings = refl
none-empty (reading {set = set} h hs) = rw (not_empty set h.sign, none-empty hs)

-- ---- The laws at the readings.

-- A polynomial's sign is in the set that its terms give.
pub by-terms : {xs : List ℤ} {board : Board} → Fits xs board → (p : Polynomial) → sign_at xs p In by_terms board p
unfolding sign_at
by-terms {xs} {board} fit p = (terms-sound (monomial_at xs) board (monomial-sound fit) p).sign

-- If the atom q holds, p's sign is in the set that is deduced of p.
pub by_deduction : {xs : List ℤ} {board : Board} → Fits xs board → (p : Polynomial) (q : Atom) → atom_holds (sign_at xs) q ≡ true → sign_at xs p In deduce board p q
unfolding sign_at atom_holds
by_deduction {xs} {board} fit p q h =
    (deduce-sound (monomial_at xs) board (monomial-sound fit) (none-empty fit) p q (record { sign = record { is = h } })).sign

-- If the atoms hold, p's sign is in what each two of them find.
pub by_pairs : {xs : List ℤ} {board : Board} → Fits xs board → (p : Polynomial) {l : List Atom} → Every (λ (q : Atom). atom_holds (sign_at xs) q ≡ true) l
    → Every (λ (f : SignSet). sign_at xs p In f) (tries board p l)
unfolding sign_at atom_holds
by_pairs {xs} {board} fit p h = every-wider (λ f k. k.sign)
    (tries-sound (monomial_at xs) board (monomial-sound fit) p (every-wider (λ q k. record { sign = record { is = k } }) h))

-- ---- The sign of a variable is the sign of its reading.

no-exponents : (k : ℕ) (xs : List ℤ) → length xs ≤ k → monomial_at xs (16 ^ k) ≡ one
unfolding monomial_at one pow
no-exponents k [] h = refl
no-exponents k (x ∷ xs) h = ap₂ (λ (e : ℕ) (z : ℤ). pow x e *ℤ z) (exponent-behind k (length xs) h) (no-exponents k xs (omega arith))

first-variable : (x : ℤ) (xs : List ℤ) → monomial_at (x ∷ xs) (16 ^ length xs) ≡ x
unfolding monomial_at pow
first-variable x xs = ap₂ (λ (e : ℕ) (z : ℤ). pow x e *ℤ z) (exponent-own (length xs)) (no-exponents (length xs) xs (omega arith)) ∙ *ℤ-one (pow x 1) ∙ one-*ℤ x

later-variable : (k : ℕ) (x : ℤ) (xs : List ℤ) → k < length xs → monomial_at (x ∷ xs) (16 ^ k) ≡ monomial_at xs (16 ^ k)
unfolding monomial_at pow
later-variable k x xs h = ap (λ (e : ℕ). pow x e *ℤ monomial_at xs (16 ^ k)) (exponent-before k (length xs) h) ∙ one-*ℤ (monomial_at xs (16 ^ k))

-- The monomial of variable i has its reading as value.
pub variable-at : (xs : List ℤ) (i : ℕ) → i < length xs → monomial_at xs (16 ^ (length xs - suc i)) ≡ get_or xs i (pos 0)
variable-at [] i h = absurd (omega arith)
variable-at (x ∷ xs) zero h = ap (λ (k : ℕ). monomial_at (x ∷ xs) (16 ^ k)) (one-less (length xs)) ∙ first-variable x xs
  where
    one-less : (n : ℕ) → suc n - 1 ≡ n
    one-less n = omega arith
variable-at (x ∷ xs) (suc i) h = ap (λ (k : ℕ). monomial_at (x ∷ xs) (16 ^ k)) (both-less (length xs) i)
    ∙ later-variable (length xs - suc i) x xs (omega arith) ∙ variable-at xs i (omega arith)
  where
    both-less : (n i : ℕ) → suc n - suc (suc i) ≡ n - suc i
    both-less n i = omega arith

-- And so the sign of a variable.
pub variable-sign : (xs : List ℤ) {n i : ℕ} → length xs ≡ n → i < n → sign_at xs (variable n i) ≡ sign_of (get_or xs i (pos 0))
unfolding sign_at value_by variable one
variable-sign xs {n} {i} e h = ap sign_of (+ℤ_idr (pos 1 *ℤ monomial_at xs (16 ^ (n - suc i))) ∙ one-*ℤ (monomial_at xs (16 ^ (n - suc i)))
    ∙ ap (λ (n : ℕ). monomial_at xs (16 ^ (n - suc i))) (sym e) ∙ variable-at xs i (omega arith))
