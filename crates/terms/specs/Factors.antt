-- The book's sign of a monomial by what its factors have: each factor adds what it has to what the factors before it had.
-- That a product of sets goes by this is one computed test, over what the product so far and the factor have.
use Rattle.std.specs.Prelude.{◌≡◌, refl, Bool, true, false, not, cond, ◌&&◌, ◌||◌, [], ◌∷◌, ℕ, zero, suc, eqb, length}
use Rattle.std.proofs.Common.{ap, ◌∙◌, arith}
use Rattle.std.proofs.Math.Bool.{or-false, or_assoc}
use borrow.Author.Tests.{eqb-true, ne_eqb}
use Rattle.sign_laws.specs.Booleans.{and_first, and_second}
use Rattle.sign_laws.specs.Sets.{has-set_of}
use Rattle.rules.specs.Signs.{Sign, negative, nought, positive, SignSet, only, has, bit, set_of, some_sign, all_signs, product_of_signs, product, square}
use Rattle.rules.specs.Polynomial.{Board, exponent, odd, multiplied, monomial_sign_from, monomial_sign}
use Rattle.terms.specs.Masks.{product_of}
use Rattle.terms.specs.Words.{any_of, odd_of, xor, xor-false, xor_assoc}

-- ---- a product by the signs that the second factor has

pick : Bool → Bool → Bool → Sign → Bool
pick n z p negative = n
pick n z p nought = z
pick n z p positive = p

product_by : SignSet → Bool → Bool → Bool → SignSet
product_by a n z p = set_of (λ s. some_sign (λ x. has x a && some_sign (λ y. pick n z p y && has s (only (product_of_signs x y)))))

of-set : (a s : SignSet) → product a s ≡ product_by a (has negative s) (has nought s) (has positive s)
unfolding product all_signs some_sign product_by pick
of-set a s = refl

-- ---- what a factor adds

-- a test of both truth values
every : (Bool → Bool) → Bool
every f = f true && f false

every-at : (f : Bool → Bool) → every f ≡ true → (b : Bool) → f b ≡ true
unfolding every
every-at f h true = and_first (f true) (f false) h
every-at f h false = and_second (f true) (f false) h

-- a b c d e are what the factors so far have, as `product_of` asks it; n z p are the signs that the next one has
right : Bool → Bool → Bool → Bool → Bool → Bool → Bool → Bool → Bool
right a b c d e n z p =
    eqb (product_by (product_of a b c d e) n z p) (product_of (a || not ((n || p) || z)) (b || not (n || p)) (c || z) (d || (n && p)) (xor e n))

all_right : every (λ a. every (λ b. every (λ c. every (λ d. every (λ e. every (λ n. every (λ z. every (λ p. right a b c d e n z p)))))))) ≡ true
unfolding every right product_by pick set_of some_sign has only product_of_signs bit
all_right = refl

-- ---- the signs of a square

has-square : (t : Sign) (s : SignSet) → has t (square s) ≡ some_sign (λ x. has x s && has t (only (product_of_signs x x)))
unfolding square
has-square t s = has-set_of (λ t. some_sign (λ x. has x s && has t (only (product_of_signs x x)))) t

of-three : (n z p : Bool)
    → ((n && false) || (z && false) || (p && false) ≡ false) × ((n && false) || (z && true) || (p && false) ≡ z) × ((n && true) || (z && false) || (p && true) ≡ n || p)
of-three true true true = (refl, refl, refl)
of-three true true false = (refl, refl, refl)
of-three true false true = (refl, refl, refl)
of-three true false false = (refl, refl, refl)
of-three false true true = (refl, refl, refl)
of-three false true false = (refl, refl, refl)
of-three false false true = (refl, refl, refl)
of-three false false false = (refl, refl, refl)

square-negative : (s : SignSet) → has negative (square s) ≡ false
unfolding some_sign only has product_of_signs
square-negative s = has-square negative s ∙ (of-three (has negative s) (has nought s) (has positive s)).0

square-nought : (s : SignSet) → has nought (square s) ≡ has nought s
unfolding some_sign only has product_of_signs
square-nought s = has-square nought s ∙ (of-three (has negative s) (has nought s) (has positive s)).1

square-positive : (s : SignSet) → has positive (square s) ≡ has negative s || has positive s
unfolding some_sign only has product_of_signs
square-positive s = has-square positive s ∙ (of-three (has negative s) (has nought s) (has positive s)).2

-- ---- one factor more

module _ (a b c d e : Bool) where
  factor : (s : SignSet) → let n = has negative s in let z = has nought s in let p = has positive s in
      product (product_of a b c d e) s ≡ product_of (a || not ((n || p) || z)) (b || not (n || p)) (c || z) (d || (n && p)) (xor e n)
  unfolding right
  factor s = of-set (product_of a b c d e) s ∙ eqb-true _ _ (
      every-at _ (every-at _ (every-at _ (every-at _ (every-at _ (every-at _ (every-at _ (every-at _ all_right a) b) c) d) e)
      (has negative s)) (has nought s)) (has positive s))

  -- the square of a set has no negative sign, and is positive for either sign
  square-factor : (s : SignSet) → let n = has negative s in let z = has nought s in let p = has positive s in
      product (product_of a b c d e) (square s) ≡ product_of (a || not ((n || p) || z)) (b || not (n || p)) (c || z) (d || false) (xor e false)
  square-factor s = rw (square-negative s, square-nought s, square-positive s) at (factor (square s))

  -- a variable's set, by the exponent
  by-parity : (o : Bool) (s : SignSet) → let n = has negative s in let z = has nought s in let p = has positive s in
      product (product_of a b c d e) (cond o s (square s)) ≡ product_of (a || not ((n || p) || z)) (b || not (n || p)) (c || z) (d || ((o && n) && p)) (xor e (o && n))
  by-parity true s = factor s
  by-parity false s = square-factor s

-- what a variable adds, by its exponent and its set
abbrev pub adds_empty : ℕ → SignSet → Bool
adds_empty e s = not (eqb e 0) && not ((has negative s || has positive s) || has nought s)

abbrev pub adds_alone : ℕ → SignSet → Bool
adds_alone e s = not (eqb e 0) && not (has negative s || has positive s)

abbrev pub adds_zero : ℕ → SignSet → Bool
adds_zero e s = not (eqb e 0) && has nought s

abbrev pub adds_both : ℕ → SignSet → Bool
adds_both e s = (odd e && has negative s) && has positive s

abbrev pub adds_minus : ℕ → SignSet → Bool
adds_minus e s = odd e && has negative s

one-more : (a b c d f : Bool) (e : ℕ) (s : SignSet)
    → multiplied e s (product_of a b c d f) ≡ product_of (a || adds_empty e s) (b || adds_alone e s) (c || adds_zero e s) (d || adds_both e s) (xor f (adds_minus e s))
unfolding multiplied odd
one-more a b c d f zero s = rw (or-false a, or-false b, or-false c, or-false d, xor-false f)
one-more a b c d f (suc e) s = rw (ne_eqb (suc e) 0 (λ (q : suc e ≡ 0). omega arith)) (by-parity a b c d f (odd (suc e)) s)

-- ---- all of them

factors-from : (ss : Board) (m : ℕ) (a b c d f : Bool) → monomial_sign_from (product_of a b c d f) ss m
    ≡ product_of (a || any_of adds_empty ss m) (b || any_of adds_alone ss m) (c || any_of adds_zero ss m) (d || any_of adds_both ss m) (xor f (odd_of adds_minus ss m))
unfolding monomial_sign_from any_of odd_of
factors-from [] m a b c d f = rw (or-false a, or-false b, or-false c, or-false d, xor-false f)
factors-from (s ∷ ss) m a b c d f =
    let e = exponent m (length ss) in
    ap (λ (x : SignSet). monomial_sign_from x ss m) (one-more a b c d f e s)
    ∙ factors-from ss m (a || adds_empty e s) (b || adds_alone e s) (c || adds_zero e s) (d || adds_both e s) (xor f (adds_minus e s))
    ∙ rw (or_assoc a, or_assoc b, or_assoc c, or_assoc d, xor_assoc f)

-- the book's sign of a monomial, by the five questions about its factors
pub by-factors : (ss : Board) (m : ℕ)
    → monomial_sign ss m ≡ product_of (any_of adds_empty ss m) (any_of adds_alone ss m) (any_of adds_zero ss m) (any_of adds_both ss m) (odd_of adds_minus ss m)
unfolding monomial_sign
by-factors ss m = factors-from ss m false false false false false
