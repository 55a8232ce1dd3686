-- 01, "Normal form": the normal form keeps the shape of the polynomial (the terms, their monomials, coefficients that are not 0 and not too large),
-- so it is written within the limits of a block if the polynomial is; and it does not depend on the atom's set.
use Rattle.std.specs.Prelude.{◌≡◌, refl, Bool, true, false, [], ◌∷◌, ℕ, zero, suc, ◌*◌, ◌/◌, ◌<◌, ◌≤◌, pos, neg_ℤ, nat_abs, length}
use Rattle.std.proofs.Common.{sym, ap, ◌∙◌, subst, le_refl, le_trans, lt_of_le_of_lt, div-le_self, zero-mul, le_of_eq, arith}
use Rattle.std.specs.Int.{◌∣◌}
use Rattle.std.proofs.Math.Nat.{div-mul_cancel}
use Rattle.std.specs.Int.Signed.{quot_z}
use Rattle.rules.specs.Signs.{SignSet, full}
use Rattle.rules.specs.Polynomial.{normal_form, Term, Polynomial, Atom, each_coefficient, divided, first_is_negative, turned, normal}
use Rattle.rules.specs.Limits.{TermWithin, TermsWithin, no_terms, terms, PolynomialWithin}
use Rattle.sign_laws.specs.Sets.{mirror-below}
use Rattle.ending_laws.specs.Gcd.{DividesEach, content-divides}
use Rattle.ending_laws.specs.Gcd.{no_terms as divides-none, terms as divides-terms}
use Rattle.normal_laws.specs.Twice.{magnitude-negated, magnitude-quotient, normal-twice}

-- ---- The shape of a polynomial.

-- The second term has the monomial of the first; its coefficient is not 0 unless the first's is, and no larger.
pub record TermShape (t u : Term) : Type 0 where
  pub monomial : u.monomial ≡ t.monomial
  pub not_zero : 0 < nat_abs t.coefficient → 0 < nat_abs u.coefficient
  pub no_larger : nat_abs u.coefficient ≤ nat_abs t.coefficient

-- The second polynomial has so many terms as the first, each of the shape of the first's.
pub data Shape : Polynomial → Polynomial → Type 0 where
  shape_end : Shape [] []
  shape : {t u : Term} {ts us : Polynomial} → TermShape t u → Shape ts us → Shape (t ∷ ts) (u ∷ us)

shape_same : (p : Polynomial) → Shape p p
shape_same [] = shape_end
shape_same (t ∷ ts) = shape (record { monomial = refl; not_zero = λ h. h; no_larger = le_refl (nat_abs t.coefficient) }) (shape_same ts)

shape-trans : {p q r : Polynomial} → Shape p q → Shape q r → Shape p r
shape-trans shape_end shape_end = shape_end
shape-trans (shape x xs) (shape y ys) = shape (record {
  monomial = y.monomial ∙ x.monomial;
  not_zero = λ h. y.not_zero (x.not_zero h);
  no_larger = le_trans y.no_larger x.no_larger;
}) (shape-trans xs ys)

quotient-positive : (n g : ℕ) → g ∣ n → 0 < n → 0 < n / g
quotient-positive n g d h = above (n / g) (div-mul_cancel g d)
  where
    above : (q : ℕ) → q * g ≡ n → 0 < q
    above zero e = absurd (omega (arith, sym (zero-mul g) ∙ e))
    above (suc q) e = omega arith

with-quotient : (t : Term) (g : ℕ) → g ∣ nat_abs t.coefficient → TermShape t (record { coefficient = quot_z t.coefficient (pos g); monomial = t.monomial })
with-quotient t g h = record {
  monomial = refl;
  not_zero = λ k. rw (magnitude-quotient t.coefficient g) (quotient-positive (nat_abs t.coefficient) g h k);
  no_larger = rw (magnitude-quotient t.coefficient g) (div-le_self (nat_abs t.coefficient) g);
}

divided-shape : {g : ℕ} {p : Polynomial} → DividesEach g p → Shape p (each_coefficient (λ c. quot_z c (pos g)) p)
unfolding each_coefficient
divided-shape divides-none = shape_end
divided-shape {g} (divides-terms {t} h hs) = shape (with-quotient t g h) (divided-shape hs)

with-negation : (t : Term) → TermShape t (record { coefficient = neg_ℤ t.coefficient; monomial = t.monomial })
with-negation t = record {
  monomial = refl;
  not_zero = λ k. rw (magnitude-negated t.coefficient) k;
  no_larger = le_of_eq (magnitude-negated t.coefficient);
}

negated-shape : (p : Polynomial) → Shape p (each_coefficient neg_ℤ p)
unfolding each_coefficient
negated-shape [] = shape_end
negated-shape (t ∷ ts) = shape (with-negation t) (negated-shape ts)

turned-shape : (b : Bool) (p : Polynomial) (s : SignSet) → Shape p (turned b p s).polynomial
unfolding turned
turned-shape true p s = negated-shape p
turned-shape false p s = shape_same p

-- The normal form has the shape of the atom's polynomial.
pub normal-shape : (a : Atom) → Shape a.polynomial (normal a).polynomial
unfolding normal divided
normal-shape a =
    shape-trans (divided-shape (content-divides a.polynomial))
    (turned-shape (first_is_negative (divided a.polynomial)) (divided a.polynomial) a.set)

-- ---- What the shape gives.

-- As many terms.
pub shape-length : {p q : Polynomial} → Shape p q → length q ≡ length p
shape-length shape_end = refl
shape-length (shape x xs) = ap suc (shape-length xs)

shape-term : {above : ℕ} {t u : Term} → TermShape t u → TermWithin above t → TermWithin above u
shape-term x h = record {
  not_zero = x.not_zero h.not_zero;
  magnitude = lt_of_le_of_lt x.no_larger h.magnitude;
  falls = rw x.monomial h.falls;
}

shape-terms : {above : ℕ} {p q : Polynomial} → Shape p q → TermsWithin above p → TermsWithin above q
shape-terms shape_end no_terms = no_terms
shape-terms (shape {us = us} x xs) (terms h hs) = terms (shape-term x h) (subst (λ (m : ℕ). TermsWithin m us) (sym x.monomial) (shape-terms xs hs))

-- And the limits of a block, if the first is within them.
pub shape-within : {n : ℕ} {p q : Polynomial} → Shape p q → PolynomialWithin n p → PolynomialWithin n q
shape-within s h = record { not_none = rw (shape-length s) h.not_none; at-most = rw (shape-length s) h.at-most; each = shape-terms s h.each }

-- The normal form has as many terms as the polynomial.
pub normal-length : (a : Atom) → length (normal a).polynomial ≡ length a.polynomial
normal-length a = shape-length (normal-shape a)

-- The normal form of a polynomial within the limits is within the limits.
pub normal-within : {n : ℕ} (a : Atom) → PolynomialWithin n a.polynomial → PolynomialWithin n (normal a).polynomial
normal-within a h = shape-within (normal-shape a) h

-- ---- The set of a normal form, and the normal form of a polynomial alone.

turned-small : (b : Bool) (p : Polynomial) (s : SignSet) → s < 8 → (turned b p s).set < 8
unfolding turned
turned-small true p s h = mirror-below s
turned-small false p s h = h

-- The set of a normal form is one of the eight if the atom's is.
pub normal-small : (a : Atom) → a.set < 8 → (normal a).set < 8
unfolding normal
normal-small a h = turned-small (first_is_negative (divided a.polynomial)) (divided a.polynomial) a.set h

turned-alike : (b : Bool) (p : Polynomial) (s t : SignSet) → (turned b p s).polynomial ≡ (turned b p t).polynomial
unfolding turned
turned-alike true p s t = refl
turned-alike false p s t = refl

-- The polynomial of an atom's normal form does not depend on the atom's set.
pub normal-alike : (a : Atom) → (normal a).polynomial ≡ normal_form a.polynomial
unfolding normal normal_form
normal-alike a = turned-alike (first_is_negative (divided a.polynomial)) (divided a.polynomial) a.set full

-- The normal form of a normal form is itself.
pub normal_form-twice : (p : Polynomial) → normal_form (normal_form p) ≡ normal_form p
unfolding normal_form
normal_form-twice p =
    sym (normal-alike (normal (record { polynomial = p; set = full }))) ∙ ap (λ (a : Atom). a.polynomial) (normal-twice (record { polynomial = p; set = full }))

-- It has as many terms as the polynomial.
pub normal_form-length : (p : Polynomial) → length (normal_form p) ≡ length p
unfolding normal_form
normal_form-length p = normal-length (record { polynomial = p; set = full })

-- And is within the limits if the polynomial is.
pub normal_form-within : {n : ℕ} (p : Polynomial) → PolynomialWithin n p → PolynomialWithin n (normal_form p)
unfolding normal_form
normal_form-within p h = normal-within (record { polynomial = p; set = full }) h
