-- The sign of a polynomial by terms is right, for any values of the monomials whose signs fit the board.
-- And the monomials' signs are right: the sign of a product of powers is in the product of the sets.
use Rattle.std.specs.Prelude.{◌≡◌, cond, ℕ, zero, suc, ◌%◌, eqb, ℤ, ◌+ℤ◌, ◌*ℤ◌}
use Rattle.std.proofs.Math.Path.{refl}
use Rattle.std.proofs.Common.{sym, ap, ◌∙◌, arith}
use mathlib.Core.List.{[], ◌∷◌}
use Rattle.std.proofs.Math.IntN.{pos, pow, +ℤ_idl, +ℤ_idr, +ℤ_assoc, *ℤ-one}
use Rattle.whole.specs.Differences.{one-*ℤ}
use Rattle.rules.specs.Signs.{Sign, negative, nought, positive, sign_of, SignSet, product_of_signs, square, open_signs}
use Rattle.rules.specs.Polynomial.{Polynomial, Board, odd, multiplied, monomial_sign, by_terms_from, by_terms}
use Rattle.rules.specs.Meaning.{value_by}
use Rattle.sign_laws.specs.Whole.{◌∈◌, ∈-sum, ∈-product, ∈-square, ∈-own, by_sign, by_equal, by-same-sign, sign-product}

-- ---- A polynomial, by terms.

module _ (v : ℕ → ℤ) (board : Board) (fits : (m : ℕ) → v m ∈ monomial_sign board m) where
  terms-from : (p : Polynomial) {sofar : SignSet} {z : ℤ} → z ∈ sofar → z +ℤ value_by v p ∈ by_terms_from sofar board p
  unfolding value_by by_terms_from
  terms-from [] {z = z} h = by_equal (+ℤ_idr z) h
  terms-from (t ∷ ts) {z = z} h = by_equal (sym (+ℤ_assoc z (t.coefficient *ℤ v t.monomial) (value_by v ts)))
      (terms-from ts (∈-sum h (∈-product (∈-own t.coefficient) (fits t.monomial))))

  -- A polynomial has a sign of the set that its terms give.
  pub terms-sound : (p : Polynomial) → value_by v p ∈ by_terms board p
  unfolding by_terms open_signs
  terms-sound p = by_equal (sym (+ℤ_idl (value_by v p))) (terms-from p {z = pos 0} (by_sign nought refl refl))

-- ---- A power has the sign of the number if the exponent is odd, of its square if it is even.

thrice : (s x : Sign) → product_of_signs (product_of_signs (product_of_signs s x) x) x ≡ product_of_signs s x
unfolding product_of_signs
thrice negative negative = refl
thrice negative nought = refl
thrice negative positive = refl
thrice nought negative = refl
thrice nought nought = refl
thrice nought positive = refl
thrice positive negative = refl
thrice positive nought = refl
thrice positive positive = refl

two-more : (x : ℤ) (e : ℕ) → sign_of (pow x (suc (suc (suc e)))) ≡ sign_of (pow x (suc e))
unfolding pow
two-more x e = sign-product (pow x e *ℤ x *ℤ x) x ∙ ap (λ s. product_of_signs s (sign_of x)) (sign-product (pow x e *ℤ x) x)
    ∙ ap (λ s. product_of_signs (product_of_signs s (sign_of x)) (sign_of x)) (sign-product (pow x e) x) ∙ thrice (sign_of (pow x e)) (sign_of x)
    ∙ sym (sign-product (pow x e) x)

odd-again : (e : ℕ) → odd (suc (suc (suc e))) ≡ odd (suc e)
unfolding odd
odd-again e = ap (λ (n : ℕ). eqb n 1) (same e)
  where
    same : (e : ℕ) → suc (suc (suc e)) % 2 ≡ suc e % 2
    same e = omega arith

power_in : {x : ℤ} {set : SignSet} (e : ℕ) → x ∈ set → pow x (suc e) ∈ cond (odd (suc e)) set (square set)
unfolding pow odd
power_in {x} zero h = by_equal (one-*ℤ x) h
power_in {x} (suc zero) h = by_equal (ap (λ y. y *ℤ x) (one-*ℤ x)) (∈-square h)
power_in {x} {set} (suc (suc e)) h = rw (odd-again e) (by-same-sign (two-more x e) (power_in e h))

-- "multiply by its set if the exponent is odd, by the square of its set if even"
pub multiplied-sound : {z x : ℤ} {sofar set : SignSet} (e : ℕ) → z ∈ sofar → x ∈ set → z *ℤ pow x e ∈ multiplied e set sofar
unfolding multiplied pow
multiplied-sound {z} zero h k = by_equal (*ℤ-one z) h
multiplied-sound (suc e) h k = ∈-product h (power_in e k)
