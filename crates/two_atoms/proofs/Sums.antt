-- p + u·q by its first monomial: it is in both, in one of them, or one of them is at its end.
-- And the bounds of a + u·b.
use mathlib.Core.Path.{◌≡◌, refl, sym, ap, ◌∙◌}
use mathlib.Core.Bool.{Bool, true, false, true≢false, false≢true}
use mathlib.Core.List.{List, [], ◌∷◌}
use Prim.Native.Nat.{ℕ, zero, suc, ◌+◌, ◌-◌, ◌*◌, ◌^◌, ◌<◌, ◌≤◌}
use native.Mathlib.Nat.{mul-le-mul, le_refl, zero-div}
use native.Mathlib.Omega.{arith}
use borrow.Author.Tests.{eq-eqb, ne_eqb, lt-ltb, le-ltb}
use lib.IntN.{ℤ, pos, negsuc, nat_abs, ◌+ℤ◌, ◌*ℤ◌}
use lib.Dec.{eqb, lit<}
use lib.ListN.{length, get_or}
use lib.Signed.{mag}
use mir.Syntax.{w32, w64}
use mir.Val.{SFits, to_z, of_z}
use mir.ValLaws.{to_z-of_z}
use Rattle.plain_laws.specs.Bounds.{magnitude-product, magnitude-sum}
use Rattle.interval.specs.Coefficients.{back}
use Rattle.rules.specs.Signs.{SignSet}
use Rattle.rules.specs.Polynomial.{Term, Polynomial, Board, exponent, multiplied, monomial_sign_from, monomial_sign}
use Rattle.rules.specs.Deduce.{is_zero, row, rows_of_q, of_three, rows_from, rows}
use Rattle.rules.specs.TwoAtoms.{unless_zero, added_rows, plus_times}
use Rattle.terms.specs.View.{terms-cons, terms-nil}
use Rattle.terms.specs.Signed.{signed-within}
use Rattle.deduce.specs.Merge.{On}
use Rattle.two_atoms.specs.declared.sum.Row.{Row}
use Rattle.two_atoms.specs.Sums.{term, sum_from, NextSum, Led}

-- ---- a + u·b fits 64 bits

-- a number of 32 bits is one of 64
pub widened : {z : ℤ} → SFits w32 z → SFits w64 z
widened {z} f = record { sfits = omega (arith, f.sfits) }

within-magnitude : (z : ℤ) → mag z ≤ nat_abs z
within-magnitude (pos n) = omega arith
within-magnitude (negsuc n) = omega arith

magnitude : {z : ℤ} → SFits w32 z → nat_abs z ≤ 2147483648
magnitude {z = pos n} f = omega (arith, f.sfits)
magnitude {z = negsuc n} f = omega (arith, f.sfits)

product-magnitude : {a b : ℤ} → SFits w32 a → SFits w32 b → nat_abs (a *ℤ b) ≤ 4611686018427387904
product-magnitude {a} {b} f g =
    let h : nat_abs a * nat_abs b ≤ 2147483648 * 2147483648 = mul-le-mul (magnitude f) (magnitude g) in omega (arith, magnitude-product a b)

pub product-fits : {a b : ℤ} → SFits w32 a → SFits w32 b → SFits w64 (a *ℤ b)
product-fits {a} {b} f g = record { sfits = omega (arith, within-magnitude (a *ℤ b), product-magnitude f g) }

pub plus-fits : {a u b : ℤ} → SFits w32 a → SFits w32 u → SFits w32 b → SFits w64 (a +ℤ u *ℤ b)
plus-fits {a} {u} {b} f g h =
    record { sfits = omega (arith, within-magnitude (a +ℤ u *ℤ b), magnitude-sum a (u *ℤ b), magnitude f, product-magnitude g h) }

-- a product, from the bits of its factors
pub product-back : {a b r : ℤ} → SFits w32 a → SFits w32 b → r ≡ to_z w32 (of_z w32 a) *ℤ to_z w32 (of_z w32 b) → to_z w64 (of_z w64 r) ≡ a *ℤ b
product-back f g e = rw (e, back f, back g) (to_z-of_z w64 _ (product-fits f g))

-- and a + u·b, from the bits of its numbers
pub plus-back : {a u b r : ℤ} → SFits w32 a → SFits w32 u → SFits w32 b → r ≡ to_z w32 (of_z w32 a) +ℤ to_z w32 (of_z w32 u) *ℤ to_z w32 (of_z w32 b)
    → to_z w64 (of_z w64 r) ≡ a +ℤ u *ℤ b
plus-back f g h e = rw (e, back f, back g, back h) (to_z-of_z w64 _ (plus-fits f g h))

pub no_number : SFits w32 (pos 0)
no_number = record { sfits = lit< tt }

pub no-long-number : SFits w64 (pos 0)
no-long-number = record { sfits = lit< tt }

-- ---- one monomial of two polynomials

module _ (v : ℤ) where
  pub plus-both : (t u : Term) (p q : Polynomial) → t.monomial ≡ u.monomial
      → let c = t.coefficient +ℤ v *ℤ u.coefficient in plus_times (t ∷ p) v (u ∷ q) ≡ unless_zero (is_zero c) (term c t.monomial) (plus_times p v q)
  unfolding plus_times added_rows rows rows_from of_three row
  plus-both t u p q e = simp (eq-eqb _ _ e)

  pub plus-first : (t u : Term) (p q : Polynomial) → (t.monomial ≡ u.monomial → ⊥) → u.monomial < t.monomial
      → let c = t.coefficient +ℤ v *ℤ pos 0 in plus_times (t ∷ p) v (u ∷ q) ≡ unless_zero (is_zero c) (term c t.monomial) (plus_times p v (u ∷ q))
  unfolding plus_times added_rows rows rows_from of_three row
  plus-first t u p q e l = simp (ne_eqb _ _ e, lt-ltb _ _ l)

  pub plus-second : (t u : Term) (p q : Polynomial) → (t.monomial ≡ u.monomial → ⊥) → t.monomial ≤ u.monomial
      → let c = pos 0 +ℤ v *ℤ u.coefficient in plus_times (t ∷ p) v (u ∷ q) ≡ unless_zero (is_zero c) (term c u.monomial) (plus_times (t ∷ p) v q)
  unfolding plus_times added_rows rows rows_from of_three row
  plus-second t u p q e l = simp (ne_eqb _ _ e, le-ltb _ _ l)

  pub plus-first-alone : (t : Term) (p : Polynomial)
      → let c = t.coefficient +ℤ v *ℤ pos 0 in plus_times (t ∷ p) v [] ≡ unless_zero (is_zero c) (term c t.monomial) (plus_times p v [])
  unfolding plus_times added_rows rows rows_from row
  plus-first-alone t p = refl

  pub plus-second-alone : (u : Term) (q : Polynomial)
      → let c = pos 0 +ℤ v *ℤ u.coefficient in plus_times [] v (u ∷ q) ≡ unless_zero (is_zero c) (term c u.monomial) (plus_times [] v q)
  unfolding plus_times added_rows rows rows_of_q row
  plus-second-alone u q = refl

  pub plus_none : plus_times [] v [] ≡ []
  unfolding plus_times added_rows rows rows_of_q
  plus_none = refl

-- ---- of two runs

module _ (cs : List ℤ) (ms : List ℕ) (u : ℤ) {i m j n : ℕ} where
  pub sum_both : i < m → j < n → get_or ms i 0 ≡ get_or ms j 0
      → let c = get_or cs i (pos 0) +ℤ u *ℤ get_or cs j (pos 0) in
      sum_from cs ms i m j n u ≡ unless_zero (is_zero c) (term c (get_or ms i 0)) (sum_from cs ms (i + 1) m (j + 1) n u)
  sum_both h k e = rw (terms-cons cs ms i m h, terms-cons cs ms j n k) (plus-both u _ _ _ _ e)

  pub sum_first : i < m → j < n → (get_or ms i 0 ≡ get_or ms j 0 → ⊥) → get_or ms j 0 < get_or ms i 0
      → let c = get_or cs i (pos 0) +ℤ u *ℤ pos 0 in
      sum_from cs ms i m j n u ≡ unless_zero (is_zero c) (term c (get_or ms i 0)) (sum_from cs ms (i + 1) m j n u)
  sum_first h k e l = rw (terms-cons cs ms i m h, terms-cons cs ms j n k) (plus-first u _ _ _ _ e l)

  pub sum-second : i < m → j < n → (get_or ms i 0 ≡ get_or ms j 0 → ⊥) → get_or ms i 0 ≤ get_or ms j 0
      → let c = pos 0 +ℤ u *ℤ get_or cs j (pos 0) in
      sum_from cs ms i m j n u ≡ unless_zero (is_zero c) (term c (get_or ms j 0)) (sum_from cs ms i m (j + 1) n u)
  sum-second h k e l = rw (terms-cons cs ms i m h, terms-cons cs ms j n k) (plus-second u _ _ _ _ e l)

  pub sum-first-alone : i < m → n ≤ j
      → let c = get_or cs i (pos 0) +ℤ u *ℤ pos 0 in
      sum_from cs ms i m j n u ≡ unless_zero (is_zero c) (term c (get_or ms i 0)) (sum_from cs ms (i + 1) m j n u)
  sum-first-alone h k = rw (terms-cons cs ms i m h, terms-nil cs ms j n k) (plus-first-alone u _ _)

  pub sum-second-alone : m ≤ i → j < n
      → let c = pos 0 +ℤ u *ℤ get_or cs j (pos 0) in
      sum_from cs ms i m j n u ≡ unless_zero (is_zero c) (term c (get_or ms j 0)) (sum_from cs ms i m (j + 1) n u)
  sum-second-alone h k = rw (terms-nil cs ms i m h, terms-cons cs ms j n k) (plus-second-alone u _ _)

  pub sum-none : m ≤ i → n ≤ j → sum_from cs ms i m j n u ≡ []
  sum-none h k = rw (terms-nil cs ms i m h, terms-nil cs ms j n k) (plus_none u)

-- ---- the tests of a number of 64 bits for 0

zero_test : {z : ℤ} → SFits w64 z → eqb (of_z w64 z) 0 ≡ is_zero z
unfolding is_zero
zero_test {z = pos zero} f = refl
zero_test {z = pos (suc n)} f = ne_eqb (suc n) 0 (λ e. omega arith)
zero_test {z = negsuc n} f = ne_eqb (18446744073709551616 - suc n) 0 (λ (e : 18446744073709551616 - suc n ≡ 0). omega (arith, f.sfits))

pub is-zero : {z : ℤ} → SFits w64 z → of_z w64 z ≡ 0 → is_zero z ≡ true
is-zero f e = sym (zero_test f) ∙ eq-eqb _ 0 e

pub not_zero : {z : ℤ} → SFits w64 z → (of_z w64 z ≡ 0 → ⊥) → is_zero z ≡ false
not_zero f e = sym (zero_test f) ∙ ne_eqb _ 0 e

-- ---- the monomial 1 is positive

no-exponent : (followers : ℕ) → exponent 0 followers ≡ 0
unfolding exponent
no-exponent followers = rw (zero-div (16 ^ followers))

one_from : (board : Board) → monomial_sign_from 1 board 0 ≡ 1
unfolding monomial_sign_from multiplied
one_from [] = refl
one_from (s ∷ board) = rw (no-exponent (length board)) (one_from board)

one-sign : (board : Board) → 1 ≡ monomial_sign board 0
unfolding monomial_sign
one-sign board = sym (one_from board)

-- ---- the walk over the monomials with the coefficient 0

-- the walk over the runs i..m and j..n has come to x and y: what is left is all of p + u·q
pub record SumWalked (cs : List ℤ) (ms : List ℕ) (i m j n : ℕ) (u : ℤ) (x y : ℕ) : Type 0 where
  pub first : On i x m
  pub second : On j y n
  pub rest : sum_from cs ms i m j n u ≡ sum_from cs ms x m y n u

module _ {cs : List ℤ} {ms : List ℕ} {ss : List SignSet} {i m j n x y : ℕ} {u : ℤ} (w : SumWalked cs ms i m j n u x y) where
  pub walk-sum : {r : Row} → NextSum cs ms ss x m y n u r → is_zero r.c ≡ true → SumWalked cs ms i m j n u r.i r.j
  unfolding unless_zero
  walk-sum {r} h e = record {
    first = omega arith;
    second = omega arith;
    rest = w.rest ∙ h.sum ∙ ap (λ (b : Bool). unless_zero b (term r.c r.monomial) (sum_from cs ms r.i m r.j n u)) e;
  }

  pub led-there : {r : Row} → NextSum cs ms ss x m y n u r → is_zero r.c ≡ false
      → Led cs ms ss i m j n u (record { there = true; c = r.c; monomial = r.monomial; s = r.s; i = r.i; j = r.j })
  unfolding unless_zero
  led-there {r} h e = record {
    sign = λ s t. h.sign (signed-within x m w.first.on (le_refl m) s) (signed-within y n w.second.on (le_refl n) t);
    sum = λ _. w.rest ∙ h.sum ∙ ap (λ (b : Bool). unless_zero b (term r.c r.monomial) (sum_from cs ms r.i m r.j n u)) e;
    none = λ f. absurd (true≢false f);
    first = omega arith;
    second = omega arith;
    goes_on = λ _. omega arith;
    less_left = λ _. omega arith;
  }

  pub led-none : m ≤ x → n ≤ y → Led cs ms ss i m j n u (record { there = false; c = pos 0; monomial = 0; s = 1; i = x; j = y })
  led-none h k = record {
    sign = λ {board} s t. one-sign board;
    sum = λ f. absurd (false≢true f);
    none = λ _. let e = sum-none cs ms u h k in (w.rest ∙ e, (refl, e));
    first = w.first;
    second = w.second;
    goes_on = λ f. absurd (false≢true f);
    less_left = λ l. omega arith;
  }
