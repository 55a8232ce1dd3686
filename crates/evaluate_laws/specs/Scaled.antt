-- The steps of a polynomial whose coefficients are changed by a factor are the steps changed by it; so a normal form fits where its polynomial does,
-- but for 2^63 itself, where it was negated.
use Rattle.std.specs.Prelude.{◌≡◌, Bool, ◌&&◌, leb, ℤ, negsuc, nat_abs, ◌+ℤ◌, ◌*ℤ◌, length}
use Rattle.std.proofs.Math.Path.{refl, ap, subst}
use Rattle.std.proofs.Common.{sym, ap₂, ◌∙◌, arith, leb-true, le-leb}
use Rattle.std.proofs.Math.Bool.{true, false}
use mathlib.Core.List.{List, [], ◌∷◌, map}
use Prim.Native.Nat.{ℕ, zero, suc, ◌+◌, ◌*◌, ◌<◌, ◌≤◌}
use Rattle.std.proofs.Math.IntN.{pos, neg_ℤ, zero-*ℤ, neg_ℤ-+ℤ, neg_ℤ-neg_ℤ}
use Rattle.std.specs.Int.Signed.{le_z, quot_z}
use Rattle.whole.specs.Solver.{#, ◌:+◌, ◌:*◌, neg, solve}
use Rattle.rules.specs.Signs.{full}
use Rattle.rules.specs.Polynomial.{Term, Polynomial, Atom, exponent, content, each_coefficient, divided, first_is_negative, turned, normal}
use Rattle.rules.specs.Evaluate.{power_steps, term_steps, sum_steps, steps, all_fit, within}
use Rattle.sign_laws.specs.Booleans.{and_intro, and_first, and_second}
use Rattle.ending_laws.specs.Gcd.{DividesEach, no_terms, terms, content-divides, content-above-zero}
use Rattle.normal_laws.specs.Keeps.{quotient-back}
use Rattle.rules.specs.Polynomial.{normal_form}

-- A change that goes through sums and through products.
record Factor (h : ℤ → ℤ) : Type 0 where
  of_zero : h (pos 0) ≡ pos 0
  of_sum : (x y : ℤ) → h (x +ℤ y) ≡ h x +ℤ h y
  of_product : (z x : ℤ) → h (z *ℤ x) ≡ h z *ℤ x

times : (g : ℤ) → Factor (λ z. z *ℤ g)
times g = record {
  of_zero = zero-*ℤ g;
  of_sum = λ x y. solve (x ∷ y ∷ g ∷ []) ((# 0 :+ # 1) :* # 2) (# 0 :* # 2 :+ # 1 :* # 2) tt;
  of_product = λ z x. solve (z ∷ x ∷ g ∷ []) (# 0 :* # 1 :* # 2) (# 0 :* # 2 :* # 1) tt;
}

negation : Factor neg_ℤ
negation = record {
  of_zero = refl;
  of_sum = λ x y. neg_ℤ-+ℤ x y;
  of_product = λ z x. solve (z ∷ x ∷ []) (neg (# 0 :* # 1)) (neg (# 0) :* # 1) tt;
}

module _ (h : ℤ → ℤ) (f : Factor h) where
  power-changed : (x : ℤ) (e : ℕ) (z : ℤ) (after other : ℤ → List ℤ) → ((y : ℤ) → other (h y) ≡ map h (after y))
      → power_steps x e (h z) other ≡ map h (power_steps x e z after)
  unfolding power_steps
  power-changed x zero z after other k = k z
  power-changed x (suc e) z after other k =
      ap (λ (w : ℤ). w ∷ power_steps x e w other) (sym (f.of_product z x)) ∙ ap (λ (l : List ℤ). h (z *ℤ x) ∷ l) (power-changed x e (z *ℤ x) after other k)

  term-changed : (readings : List ℤ) (m : ℕ) (z : ℤ) (after other : ℤ → List ℤ) → ((y : ℤ) → other (h y) ≡ map h (after y))
      → term_steps readings m (h z) other ≡ map h (term_steps readings m z after)
  unfolding term_steps
  term-changed [] m z after other k = k z
  term-changed (x ∷ readings) m z after other k = power-changed x (exponent m (length readings)) z (λ (y : ℤ). term_steps readings m y after)
      (λ (y : ℤ). term_steps readings m y other) (λ y. term-changed readings m y after other k)

  sum-changed : (readings : List ℤ) (p : Polynomial) (total : ℤ) → sum_steps readings (each_coefficient h p) (h total) ≡ map h (sum_steps readings p total)
  unfolding sum_steps each_coefficient
  sum-changed readings [] total = refl
  sum-changed readings (t ∷ ts) total = term-changed readings t.monomial t.coefficient
      (λ (z : ℤ). (total +ℤ z) ∷ sum_steps readings ts (total +ℤ z)) (λ (z : ℤ). (h total +ℤ z) ∷ sum_steps readings (each_coefficient h ts) (h total +ℤ z))
      (λ z. ap (λ (w : ℤ). w ∷ sum_steps readings (each_coefficient h ts) w) (sym (f.of_sum total z))
      ∙ ap (λ (l : List ℤ). h (total +ℤ z) ∷ l) (sum-changed readings ts (total +ℤ z)))

  steps-changed : (readings : List ℤ) (p : Polynomial) → steps readings (each_coefficient h p) ≡ map h (steps readings p)
  unfolding steps
  steps-changed readings p = ap (sum_steps readings (each_coefficient h p)) (sym f.of_zero) ∙ sum-changed readings p (pos 0)

-- ---- A polynomial is its quotients times the content.

multiplied-back : {g : ℕ} {p : Polynomial} → DividesEach g p → each_coefficient (λ c. c *ℤ pos g) (each_coefficient (λ c. quot_z c (pos g)) p) ≡ p
unfolding each_coefficient
multiplied-back no_terms = refl
multiplied-back {g} (terms {t} {ts} h hs) =
    ap₂ (λ (c : ℤ) (l : Polynomial). record { coefficient = c; monomial = t.monomial } ∷ l) (quotient-back t.coefficient g h) (multiplied-back hs)

-- ---- What fits.

all_fit-map : (p q : ℤ → Bool) (h : ℤ → ℤ) → ((z : ℤ) → p (h z) ≡ true → q z ≡ true) → (zs : List ℤ) → all_fit p (map h zs) ≡ true → all_fit q zs ≡ true
unfolding all_fit
all_fit-map p q h k [] e = refl
all_fit-map p q h k (z ∷ zs) e = and_intro (k z (and_first (p (h z)) (all_fit p (map h zs)) e)) (all_fit-map p q h k zs (and_second (p (h z)) (all_fit p (map h zs)) e))

-- What fits when it is multiplied by a number above 0, fits.
more-product : (a g : ℕ) → a ≤ a * suc g
more-product zero g = omega arith
more-product (suc a) g = omega (arith, more-product a g)

within-divided : (low high g : ℕ) → 0 < g → (z : ℤ) → within low high (z *ℤ pos g) ≡ true → within low high z ≡ true
unfolding within
within-divided low high zero h z e = absurd (omega arith)
within-divided low high (suc g) h (pos a) e = le-leb a high (omega (arith, leb-true (a * suc g) high e, more-product a g))
within-divided low high (suc g) h (negsuc a) e = below (suc a * suc g) (more-product (suc a) g) e
  where
    below : (n : ℕ) → suc a ≤ n → le_z (negsuc low) (neg_ℤ (pos n)) && le_z (neg_ℤ (pos n)) (pos high) ≡ true → leb a low && true ≡ true
    below zero k e = absurd (omega arith)
    below (suc n) k e = and_intro (le-leb a low (omega (arith, leb-true n low (and_first (leb n low) true e)))) refl

-- What fits when it is negated, fits where the upper limit is one more.
within-negated : (m : ℕ) (z : ℤ) → within m m (neg_ℤ z) ≡ true → within m (suc m) z ≡ true
unfolding within
within-negated m (pos zero) e = le-leb 0 (suc m) (omega arith)
within-negated m (pos (suc a)) e = le-leb (suc a) (suc m) (omega (arith, leb-true a m (and_first (leb a m) true e)))
within-negated m (negsuc a) e = and_intro (le-leb a m (omega (arith, leb-true (suc a) m e))) refl

within_more : (m : ℕ) (z : ℤ) → within m m z ≡ true → within m (suc m) z ≡ true
unfolding within
within_more m (pos a) e = le-leb a (suc m) (omega (arith, leb-true a m e))
within_more m (negsuc a) e = e

within-mirrored : (m : ℕ) (z : ℤ) → within m (suc m) (neg_ℤ z) ≡ true → within m (suc m) z ≡ true
unfolding within
within-mirrored m (pos zero) e = le-leb 0 (suc m) (omega arith)
within-mirrored m (pos (suc a)) e = le-leb (suc a) (suc m) (omega (arith, leb-true a m (and_first (leb a m) true e)))
within-mirrored m (negsuc a) e = and_intro (le-leb a m (omega (arith, leb-true (suc a) (suc m) e))) refl

twice-negated : (p : Polynomial) → each_coefficient neg_ℤ (each_coefficient neg_ℤ p) ≡ p
unfolding each_coefficient
twice-negated [] = refl
twice-negated (t ∷ ts) = ap₂ (λ (c : ℤ) (l : Polynomial). record { coefficient = c; monomial = t.monomial } ∷ l) (neg_ℤ-neg_ℤ t.coefficient) (twice-negated ts)

-- ---- The normal form.

module _ (m : ℕ) (readings : List ℤ) where
  pub divided-fits : (low high : ℕ) (p : Polynomial) → all_fit (within low high) (steps readings p) ≡ true → all_fit (within low high) (steps readings (divided p)) ≡ true
  unfolding divided
  divided-fits low high p e = all_fit-map (within low high) (within low high) (λ z. z *ℤ pos (content p)) (within-divided low high (content p) (content-above-zero p))
      (steps readings (divided p))
      (subst (λ (l : List ℤ). all_fit (within low high) l ≡ true)
      (ap (steps readings) (sym (multiplied-back (content-divides p))) ∙ steps-changed (λ z. z *ℤ pos (content p)) (times (pos (content p))) readings (divided p)) e)

  negated_fits : (p : Polynomial) → all_fit (within m m) (steps readings p) ≡ true → all_fit (within m (suc m)) (steps readings (each_coefficient neg_ℤ p)) ≡ true
  unfolding each_coefficient
  negated_fits p e = all_fit-map (within m m) (within m (suc m)) neg_ℤ (within-negated m) (steps readings (each_coefficient neg_ℤ p))
      (subst (λ (l : List ℤ). all_fit (within m m) l ≡ true)
      (ap (steps readings) (sym (twice-negated p)) ∙ steps-changed neg_ℤ negation readings (each_coefficient neg_ℤ p)) e)

  -- The numbers from -(m + 1) to m + 1 stay among themselves.
  pub negated-within : (p : Polynomial) → all_fit (within m (suc m)) (steps readings p) ≡ true → all_fit (within m (suc m)) (steps readings (each_coefficient neg_ℤ p)) ≡ true
  unfolding each_coefficient
  negated-within p e = all_fit-map (within m (suc m)) (within m (suc m)) neg_ℤ (within-mirrored m) (steps readings (each_coefficient neg_ℤ p))
      (subst (λ (l : List ℤ). all_fit (within m (suc m)) l ≡ true)
      (ap (steps readings) (sym (twice-negated p)) ∙ steps-changed neg_ℤ negation readings (each_coefficient neg_ℤ p)) e)

  all_fit-more : (zs : List ℤ) → all_fit (within m m) zs ≡ true → all_fit (within m (suc m)) zs ≡ true
  unfolding all_fit
  all_fit-more [] e = refl
  all_fit-more (z ∷ zs) e = and_intro (within_more m z (and_first (within m m z) (all_fit (within m m) zs) e)) (all_fit-more zs (and_second (within m m z) (all_fit (within m m) zs) e))

  -- Where all steps of a polynomial fit, those of its normal form fit, but for one past the upper limit.
  pub normal_form-near : (p : Polynomial) → all_fit (within m m) (steps readings p) ≡ true → all_fit (within m (suc m)) (steps readings (normal_form p)) ≡ true
  unfolding normal_form normal turned
  normal_form-near p e = by (first_is_negative (divided p))
    where
      by : (b : Bool) → all_fit (within m (suc m)) (steps readings (turned b (divided p) full).polynomial) ≡ true
      by true = negated_fits (divided p) (divided-fits m m p e)
      by false = all_fit-more (steps readings (divided p)) (divided-fits m m p e)

  -- And where it was not negated, they all fit.
  pub normal_form-fits : (p : Polynomial) → first_is_negative (divided p) ≡ false → all_fit (within m m) (steps readings p) ≡ true
      → all_fit (within m m) (steps readings (normal_form p)) ≡ true
  unfolding normal_form normal turned
  normal_form-fits p n e = subst (λ (b : Bool). all_fit (within m m) (steps readings (turned b (divided p) full).polynomial) ≡ true) (sym n) (divided-fits m m p e)
