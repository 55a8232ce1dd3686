-- 01, "Normal form": the normal form of a normal form is itself.
-- The polynomial that is divided has the content 1, and the first coefficient of one that is turned is not negative.
use Rattle.std.specs.Prelude.{◌≡◌, refl, Bool, true, false, not, [], ◌∷◌, ℕ, zero, suc, ◌*◌, ◌/◌, ℤ, pos, negsuc, neg_ℤ, nat_abs}
use Rattle.std.proofs.Common.{ap, ap₂, ◌∙◌, mul-one, div-one, zero-lt-suc}
use Rattle.std.proofs.lemmas.Bool.{false≢true}
use Rattle.std.specs.Int.{◌∣◌}
use Rattle.std.proofs.Math.Nat.{mul-dvd-mul_left, mul-div_cancel', dvd_of_mul-dvd-mul_left, eq-one_of_dvd-one}
use Rattle.std.specs.Int.Signed.{quot_z, non_neg}
use Rattle.rules.specs.Signs.{SignSet}
use Rattle.rules.specs.Polynomial.{Polynomial, Atom, gcd, content_from, or_one, content, each_coefficient, divided, first_is_negative, turned, normal}
use Rattle.ending_laws.specs.Gcd.{DividesEach, no_terms, terms, content_from-divides, content_from-greatest}

-- ---- Magnitudes.

-- A negation keeps the magnitude.
pub magnitude-negated : (z : ℤ) → nat_abs (neg_ℤ z) ≡ nat_abs z
magnitude-negated (pos zero) = refl
magnitude-negated (pos (suc n)) = refl
magnitude-negated (negsuc n) = refl

-- The magnitude of a quotient is the quotient of the magnitude.
pub magnitude-quotient : (c : ℤ) (g : ℕ) → nat_abs (quot_z c (pos g)) ≡ nat_abs c / g
magnitude-quotient (pos a) g = refl
magnitude-quotient (negsuc a) g = magnitude-negated (pos (suc a / g))

by_one : (c : ℤ) → quot_z c (pos 1) ≡ c
by_one (pos a) = ap pos (div-one a)
by_one (negsuc a) = ap (λ (n : ℕ). neg_ℤ (pos n)) (div-one (suc a))

same-magnitudes : (f : ℤ → ℤ) → ((c : ℤ) → nat_abs (f c) ≡ nat_abs c) → (g : ℕ) (p : Polynomial) → content_from g (each_coefficient f p) ≡ content_from g p
unfolding content_from each_coefficient
same-magnitudes f h g [] = refl
same-magnitudes f h g (t ∷ ts) =
    ap (λ (n : ℕ). content_from (gcd n g) (each_coefficient f ts)) (h t.coefficient) ∙ same-magnitudes f h (gcd (nat_abs t.coefficient) g) ts

same-coefficients : (f : ℤ → ℤ) → ((c : ℤ) → f c ≡ c) → (p : Polynomial) → each_coefficient f p ≡ p
unfolding each_coefficient
same-coefficients f h [] = refl
same-coefficients f h (t ∷ ts) =
    ap₂ (λ (c : ℤ) (l : Polynomial). record { coefficient = c; monomial = t.monomial } ∷ l) (h t.coefficient) (same-coefficients f h ts)

-- ---- The divided polynomial has the content 1.

quotients-divide : {g : ℕ} (h : ℕ) {p : Polynomial} → DividesEach g p → DividesEach h (each_coefficient (λ c. quot_z c (pos g)) p) → DividesEach (g * h) p
unfolding each_coefficient
quotients-divide h no_terms no_terms = no_terms
quotients-divide {g} h (terms {t} x xs) (terms y ys) =
    terms (rw (mul-div_cancel' g x) at (mul-dvd-mul_left h g (rw (magnitude-quotient t.coefficient g) at y))) (quotients-divide h xs ys)

one-within : (p : Polynomial) (g : ℕ) → content_from 0 p ≡ g → or_one (content_from 0 (each_coefficient (λ c. quot_z c (pos (or_one g))) p)) ≡ 1
unfolding or_one
one-within p zero e = rw (same-magnitudes (λ c. quot_z c (pos 1)) (λ c. ap nat_abs (by_one c)) 0 p, e)
one-within p (suc n) e =
    let q = each_coefficient (λ c. quot_z c (pos (suc n))) p in
    let h = content_from 0 q in
    let x : DividesEach (suc n) p = rw e at (content_from-divides p) in
    let y : DividesEach (suc n * h) p = quotients-divide h x (content_from-divides q) in
    let z : suc n * h ∣ suc n = rw e at (content_from-greatest p (suc n * h) y) in
    let u : suc n * h ∣ suc n * 1 = rw (mul-one (suc n)) z in
    let v : h ≡ 1 = eq-one_of_dvd-one (dvd_of_mul-dvd-mul_left h (zero-lt-suc n) u) in
    rw v

content-divided : (p : Polynomial) → content (divided p) ≡ 1
unfolding divided content
content-divided p = one-within p (content_from 0 p) refl

divided-by-one : (q : Polynomial) → content q ≡ 1 → divided q ≡ q
unfolding divided
divided-by-one q e = rw e (same-coefficients (λ c. quot_z c (pos 1)) by_one q)

-- ---- Turned, the first coefficient is not negative.

first-turned : (q : Polynomial) → first_is_negative q ≡ true → first_is_negative (each_coefficient neg_ℤ q) ≡ false
unfolding first_is_negative each_coefficient
first-turned [] e = refl
first-turned (t ∷ ts) e = negated t.coefficient e
  where
    negated : (c : ℤ) → not (non_neg c) ≡ true → not (non_neg (neg_ℤ c)) ≡ false
    negated (pos n) e = absurd (false≢true e)
    negated (negsuc n) e = refl

turned-twice : (b : Bool) (q : Polynomial) (s : SignSet) → first_is_negative q ≡ b → content q ≡ 1 → normal (turned b q s) ≡ turned b q s
unfolding normal turned content
turned-twice true q s l o =
    let one : content (each_coefficient neg_ℤ q) ≡ 1 = ap or_one (same-magnitudes neg_ℤ magnitude-negated 0 q) ∙ o in
    rw (divided-by-one (each_coefficient neg_ℤ q) one, first-turned q l)
turned-twice false q s l o = rw (divided-by-one q o, l)

-- The normal form of a normal form is itself.
pub normal-twice : (a : Atom) → normal (normal a) ≡ normal a
unfolding normal
normal-twice a = turned-twice (first_is_negative (divided a.polynomial)) (divided a.polynomial) a.set refl (content-divided a.polynomial)
