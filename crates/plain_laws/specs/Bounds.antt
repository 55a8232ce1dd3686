-- How many values are tested, and how large their terms and the products are: "64 signed bits hold each product".
-- A coefficient has a magnitude of at most 2^31 - 1; a listed fraction has such terms, a tested one terms of at most twice that.
use Rattle.std.specs.Prelude.{◌≡◌, refl, Bool, true, false, cond, List, [], ◌∷◌, ℕ, zero, suc, ◌+◌, ◌-◌, ◌*◌, ◌^◌, ◌≤◌, ◌<◌, ltb, ℤ, pos, negsuc, neg_ℤ, nat_abs, ◌+ℤ◌, ◌-ℤ◌, ◌*ℤ◌, length}
use Rattle.std.proofs.Common.{sym, ap, ◌∙◌, subst, mul-le-mul, arith}
use mathlib.Core.List.Memᴰ.{head as here}
use mathlib.Core.List.Memᴰ.{tail as later}
use mathlib.Core.List.{Memᴰ as Member}
use Rattle.std.proofs.Math.IntN.{suc_ℤ, pred_ℤ}
use Rattle.rules.specs.Polynomial.{Term, Polynomial, Board, monomial_sign}
use Rattle.rules.specs.Deduce.{Fraction, denominator, at_most, Row, row, rows}
use Rattle.rules.specs.Plain.{of_order, placed, with_root, with_roots, zero_fraction, listed, between, one_less, one_more, up_from, filled, values}
use Rattle.deduction_laws.specs.Rows.{of-rows}

-- ---- At most 35 values.

-- how many rows have a b other than 0
unfoldable pub with_b : ℤ → ℕ → ℕ
with_b (pos zero) n = n
with_b (pos (suc b)) n = suc n
with_b (negsuc b) n = suc n

unfoldable pub roots_in : List Row → ℕ
roots_in [] = 0
roots_in (x ∷ xs) = with_b x.b (roots_in xs)

placed-length : (t : Fraction) (us : List Fraction) → length (placed t us) ≤ suc (length us)
unfolding placed of_order
placed-length t [] = omega arith
placed-length t (u ∷ us) = by (placed-length t us) (at_most t u) (at_most u t)
  where
    by : length (placed t us) ≤ suc (length us) → (x y : Bool) → length (of_order x y (u ∷ us) (t ∷ u ∷ us) (u ∷ placed t us)) ≤ suc (suc (length us))
    by h true true = omega arith
    by h true false = omega arith
    by h false y = omega arith

roots-length : (xs : List Row) (us : List Fraction) → length (with_roots us xs) ≤ length us + roots_in xs
unfolding with_roots roots_in with_root with_b
roots-length [] us = omega arith
roots-length (x ∷ xs) us = by x.a x.b (λ vs. roots-length xs vs)
  where
    by : (a b : ℤ) → ((vs : List Fraction) → length (with_roots vs xs) ≤ length vs + roots_in xs) → length (with_roots (with_root a b us) xs) ≤ length us + with_b b (roots_in xs)
    by a (pos zero) more = more us
    by a (pos (suc b)) more = let t : Fraction = record { numerator = neg_ℤ a; less = b } in omega (arith, more (placed t us), placed-length t us)
    by a (negsuc b) more = let t : Fraction = record { numerator = a; less = b } in omega (arith, more (placed t us), placed-length t us)

up-length : (t : Fraction) (us : List Fraction) → length (up_from t us) ≡ 2 * length us + 2
unfolding up_from
up-length t [] = refl
up-length t (u ∷ us) = let h = up-length u us in omega (arith, h)

filled-length : (us : List Fraction) → length (filled us) ≤ 2 * length us + 1
unfolding filled
filled-length [] = omega arith
filled-length (t ∷ us) = omega (arith, up-length t us)

values_length : (xs : List Row) → length (values xs) ≤ 2 * roots_in xs + 3
unfolding values listed
values_length xs = omega (arith, filled-length (with_roots (zero_fraction ∷ []) xs), roots-length xs (zero_fraction ∷ []))

roots-of-q : (board : Board) (p q : Polynomial) → roots_in (rows board p q) ≤ length q
unfolding roots_in row with_b
roots-of-q board = of-rows board (λ p q xs. roots_in xs ≤ length q) (record {
  none = omega arith;
  mine = λ u p q xs m h. h;
  its = λ u p q xs m h. one-more u.coefficient (roots_in xs) (length q) h;
  both = λ u w p q xs m h. one-more w.coefficient (roots_in xs) (length q) h;
})
  where
    one-more : (b : ℤ) (n m : ℕ) → n ≤ m → with_b b n ≤ suc m
    one-more (pos zero) n m h = omega arith
    one-more (pos (suc b)) n m h = omega arith
    one-more (negsuc b) n m h = omega arith

-- "At most 35 values."
pub few-values : (board : Board) (p q : Polynomial) → length q ≤ 16 → length (values (rows board p q)) ≤ 35
few-values board p q h = omega (arith, values_length (rows board p q), roots-of-q board p q)

-- ---- Terms and products.

-- the magnitudes that a block has
abbrev pub largest : ℕ
largest = 2147483647

pub record Small (most : ℕ) (t : Fraction) : Type 0 where
  pub numerator : nat_abs t.numerator ≤ most
  pub denominator : suc t.less ≤ most

pub record SmallRow (x : Row) : Type 0 where
  pub a : nat_abs x.a ≤ largest
  pub b : nat_abs x.b ≤ largest

pub magnitude-negated : (z : ℤ) → nat_abs (neg_ℤ z) ≡ nat_abs z
magnitude-negated (pos zero) = refl
magnitude-negated (pos (suc n)) = refl
magnitude-negated (negsuc n) = refl

pub magnitude-product : (a b : ℤ) → nat_abs (a *ℤ b) ≡ nat_abs a * nat_abs b
magnitude-product (pos a) (pos b) = refl
magnitude-product (pos a) (negsuc b) = magnitude-negated (pos (a * suc b))
magnitude-product (negsuc a) (pos b) = magnitude-negated (pos (suc a * b))
magnitude-product (negsuc a) (negsuc b) = refl

-- The bounds: "each product is at most 2 (2^31 - 1)^2 and fits 64 signed bits".
pub product-fits : (x y : ℤ) (m n : ℕ) → nat_abs x ≤ m → nat_abs y ≤ n → nat_abs (x *ℤ y) ≤ m * n
product-fits x y m n h k = rw (magnitude-product x y) (mul-le-mul h k)

pub products-fit : (t : Fraction) (a b : ℤ) → Small (2 * largest) t → nat_abs a ≤ largest → nat_abs b ≤ largest
    → (nat_abs (a *ℤ denominator t) < 2 ^ 63) × (nat_abs (neg_ℤ t.numerator *ℤ b) < 2 ^ 63)
products-fit t a b s h k =
    let ad = product-fits a (denominator t) largest (2 * largest) h s.denominator in
    let cb = product-fits (neg_ℤ t.numerator) b (2 * largest) largest (rw (magnitude-negated t.numerator) s.numerator) k in
    (omega (arith, ad), omega (arith, cb))

-- ---- The terms of the values.

pub magnitude-sum : (x y : ℤ) → nat_abs (x +ℤ y) ≤ nat_abs x + nat_abs y
magnitude-sum (pos a) (pos b) = omega arith
magnitude-sum (pos a) (negsuc b) = less a b (ltb a (suc b))
  where
    less : (a b : ℕ) (c : Bool) → nat_abs (cond c (negsuc (suc b - suc a)) (pos (a - suc b))) ≤ a + suc b
    less a b true = omega arith
    less a b false = omega arith
magnitude-sum (negsuc a) (pos b) = less b a (ltb b (suc a))
  where
    less : (a b : ℕ) (c : Bool) → nat_abs (cond c (negsuc (suc b - suc a)) (pos (a - suc b))) ≤ suc b + a
    less a b true = omega arith
    less a b false = omega arith
magnitude-sum (negsuc a) (negsuc b) = omega arith

-- each of the fractions has such terms
pub record AllSmall (most : ℕ) (us : List Fraction) : Type 0 where
  pub each : (t : Fraction) → Member t us → Small most t

first_small : {most : ℕ} {t : Fraction} {us : List Fraction} → AllSmall most (t ∷ us) → Small most t
first_small {t = t} h = h.each t (here refl)

rest-small : {most : ℕ} {t : Fraction} {us : List Fraction} → AllSmall most (t ∷ us) → AllSmall most us
rest-small h = record { each = λ r m. h.each r (later m) }

more-small : {most : ℕ} {t : Fraction} {us : List Fraction} → Small most t → AllSmall most us → AllSmall most (t ∷ us)
more-small {most} {t} {us} h k = record { each = by }
  where
    by : (r : Fraction) → Member r (t ∷ us) → Small most r
    by r (here e) = subst (Small most) (sym e) h
    by r (later m) = k.each r m

placed-small : {most : ℕ} (t : Fraction) (us : List Fraction) → Small most t → AllSmall most us → AllSmall most (placed t us)
unfolding placed of_order
placed-small t [] h k = more-small h k
placed-small {most} t (u ∷ us) h k = by (placed-small t us h (rest-small k)) (at_most t u) (at_most u t)
  where
    by : AllSmall most (placed t us) → (x y : Bool) → AllSmall most (of_order x y (u ∷ us) (t ∷ u ∷ us) (u ∷ placed t us))
    by more true true = k
    by more true false = more-small h k
    by more false y = more-small (first_small k) more

root-small : (a b : ℤ) (us : List Fraction) → nat_abs a ≤ largest → nat_abs b ≤ largest → AllSmall largest us → AllSmall largest (with_root a b us)
unfolding with_root
root-small a (pos zero) us h k s = s
root-small a (pos (suc b)) us h k s = placed-small _ us (record { numerator = rw (magnitude-negated a) h; denominator = k }) s
root-small a (negsuc b) us h k s = placed-small _ us (record { numerator = h; denominator = k }) s

roots-small : (xs : List Row) (us : List Fraction) → ((x : Row) → Member x xs → SmallRow x) → AllSmall largest us → AllSmall largest (with_roots us xs)
unfolding with_roots
roots-small [] us h s = s
roots-small (x ∷ xs) us h s = let r = h x (here refl) in
    roots-small xs (with_root x.a x.b us) (λ y m. h y (later m)) (root-small x.a x.b us r.a r.b s)

pub double : {t : Fraction} → Small largest t → Small (2 * largest) t
double h = record { numerator = omega (arith, h.numerator); denominator = omega (arith, h.denominator) }

pub between-small : {t u : Fraction} → Small largest t → Small largest u → Small (2 * largest) (between t u)
between-small {t} {u} h k = record {
  numerator = omega (arith, magnitude-sum t.numerator u.numerator, h.numerator, k.numerator);
  denominator = omega (arith, h.denominator, k.denominator);
}

pub one-more-small : {t : Fraction} → Small largest t → Small (2 * largest) (one_more t)
one-more-small {t} h = record { numerator = omega (arith, magnitude-sum t.numerator (denominator t), h.numerator, h.denominator); denominator = omega (arith, h.denominator) }

pub one-less-small : {t : Fraction} → Small largest t → Small (2 * largest) (one_less t)
one-less-small {t} h = record { numerator = omega (arith, magnitude-sum t.numerator (neg_ℤ (denominator t)), h.numerator, h.denominator); denominator = omega (arith, h.denominator) }

up_small : (t : Fraction) (us : List Fraction) → AllSmall largest (t ∷ us) → AllSmall (2 * largest) (up_from t us)
unfolding up_from
up_small t [] h = more-small (double (first_small h)) (more-small (one-more-small (first_small h)) (record { each = λ r m. elim m [ ] }))
up_small t (u ∷ us) h = more-small (double (first_small h)) (more-small (between-small (first_small h) (first_small (rest-small h))) (up_small u us (rest-small h)))

filled-small : (us : List Fraction) → AllSmall largest us → AllSmall (2 * largest) (filled us)
unfolding filled
filled-small [] h = record { each = λ r m. elim m [ ] }
filled-small (t ∷ us) h = more-small (one-less-small (first_small h)) (up_small t us h)

zero-small : AllSmall largest (zero_fraction ∷ [])
zero-small = more-small (record { numerator = omega arith; denominator = omega arith }) (record { each = λ r m. elim m [ ] })

-- Each value that is tested is a fraction of such terms, so that `products-fit` holds of it.
pub values-small : (xs : List Row) → ((x : Row) → Member x xs → SmallRow x) → AllSmall (2 * largest) (values xs)
unfolding values listed
values-small xs h = filled-small (with_roots (zero_fraction ∷ []) xs) (roots-small xs (zero_fraction ∷ []) h zero-small)
