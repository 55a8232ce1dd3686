-- Equality of polynomials: the book's test `same` is passed by equal polynomials only, and by each polynomial with itself.
-- So the number that `which` finds leads back to the variable.
use Rattle.std.specs.Prelude.{◌≡◌, refl, Bool, true, false, ◌&&◌, [], ◌∷◌, ℕ, zero, suc, ◌<◌, eqb, ℤ, pos, negsuc}
use Rattle.std.proofs.Common.{ap, ap₂, subst, arith, eqb-true, eq-eqb}
use Rattle.std.proofs.lemmas.Bool.{false≢true}
use Rattle.std.proofs.Math.Option.{some, some-injective, none-ne-some}
use Rattle.rules.specs.Polynomial.{Term, Polynomial, same_number, same, variable, first_of, which_of, which}
use Rattle.sign_laws.specs.Booleans.{and_intro, and_first, and_second}

same-number : (a b : ℤ) → same_number a b ≡ true → a ≡ b
unfolding same_number
same-number (pos a) (pos b) e = ap pos (eqb-true a b e)
same-number (pos a) (negsuc b) e = absurd (false≢true e)
same-number (negsuc a) (pos b) e = absurd (false≢true e)
same-number (negsuc a) (negsuc b) e = ap negsuc (eqb-true a b e)

number-itself : (a : ℤ) → same_number a a ≡ true
unfolding same_number
number-itself (pos a) = eq-eqb a a refl
number-itself (negsuc a) = eq-eqb a a refl

abbrev term : ℤ → ℕ → Term
term coefficient monomial = record { coefficient = coefficient; monomial = monomial }

-- Polynomials that pass the test are equal.
pub same-equal : (p q : Polynomial) → same p q ≡ true → p ≡ q
unfolding same
same-equal [] [] e = refl
same-equal [] (u ∷ us) e = absurd (false≢true e)
same-equal (t ∷ ts) [] e = absurd (false≢true e)
same-equal (t ∷ ts) (u ∷ us) e =
    let monomials : Bool = eqb t.monomial u.monomial in
    let coefficients : Bool = same_number t.coefficient u.coefficient in
    let terms : monomials && coefficients ≡ true = and_first (monomials && coefficients) (same ts us) e in
    let equal : t ≡ u = ap₂ term (same-number t.coefficient u.coefficient (and_second monomials coefficients terms))
    (eqb-true t.monomial u.monomial (and_first monomials coefficients terms)) in
    ap₂ (λ (x : Term) (l : Polynomial). x ∷ l) equal (same-equal ts us (and_second (monomials && coefficients) (same ts us) e))

-- A polynomial passes the test with itself.
pub same-itself : (p : Polynomial) → same p p ≡ true
unfolding same
same-itself [] = refl
same-itself (t ∷ ts) = and_intro (and_intro (eq-eqb t.monomial t.monomial refl) (number-itself t.coefficient)) (same-itself ts)

found_among : (n k : ℕ) (p : Polynomial) (i : ℕ) → which_of n k p ≡ some i → (p ≡ variable n i) × (i < k)
unfolding which_of first_of
found_among n zero p i e = absurd (none-ne-some i e)
found_among n (suc k) p i e = by-test (same p (variable n k)) refl e (found_among n k p i)
  where
    by-test : (b : Bool) → same p (variable n k) ≡ b → first_of b k (which_of n k p) ≡ some i
        → (which_of n k p ≡ some i → (p ≡ variable n i) × (i < k)) → (p ≡ variable n i) × (i < suc k)
    by-test true w e earlier =
        let k-is : k ≡ i = some-injective k i e in
        (subst (λ (j : ℕ). p ≡ variable n j) k-is (same-equal p (variable n k) w), omega (arith, k-is))
    by-test false w e earlier = let found = earlier e in (found.0, omega (arith, found.1))

-- A polynomial for which a variable is found is that variable.
pub which-variable : (n : ℕ) (p : Polynomial) (i : ℕ) → which n p ≡ some i → p ≡ variable n i
unfolding which
which-variable n p i e = (found_among n n p i e).0

-- And the variable is one of the n.
pub which-below : (n : ℕ) (p : Polynomial) (i : ℕ) → which n p ≡ some i → i < n
unfolding which
which-below n p i e = (found_among n n p i e).1
