-- The signs that polynomials have at a choice of fractions are respected by the deductions (request #101).
-- One power of the denominator serves all polynomials: no degree is above 15 for each variable, and a larger power changes no sign.
use Rattle.std.specs.Prelude.{◌≡◌, refl, true, ℕ, zero, suc, ◌+◌, ◌-◌, ◌*◌, ◌/◌, ◌%◌, ◌^◌, ◌<◌, ◌≤◌, max, ℤ, ◌+ℤ◌, ◌*ℤ◌, length}
use Rattle.std.proofs.Math.Path.{sym, ap, ap₂, subst}
use Rattle.std.proofs.Common.{◌∙◌}
use mathlib.Core.List.{List, [], ◌∷◌, map}
use Rattle.std.proofs.Math.Option.{some, none-ne-some}
use native.Mathlib.Omega.{arith}
use Rattle.std.proofs.Math.IntN.{pos, one, pow, *ℤ-one, zero-*ℤ, +ℤ_idr}
use Rattle.std.proofs.Math.ListN.{get_or}
use Rattle.whole.specs.Differences.{one-*ℤ, *ℤ-assoc}
use Rattle.whole.specs.Solver.{#, con, ◌:+◌, ◌:*◌, solve}
use Rattle.rules.specs.Signs.{Sign, sign_of, positive, full, only, has}
use Rattle.rules.specs.Polynomial.{Term, Polynomial, Atom, Board, exponent, monomial_sign, variable, constant}
use Rattle.rules.specs.Formula.{Node}
use Rattle.rules.specs.Meaning.{monomial_at, value_by, sign_at, atom_holds, holds, holds_at, Choice, whole_numbers, degree, total_degree, monomial_over, sign_over, holds_over}
use Rattle.rules.proofs.Tenths.{power-above-zero}
use Rattle.sign_laws.specs.Lists.{every-wider}
use Rattle.sign_laws.specs.Sets.{◌In◌}
use Rattle.sign_laws.specs.Whole.{◌∈◌, by_sign, by-same-sign, sign_pos, sign-times}
use Rattle.deduction_laws.specs.Readings.{monomial-sound, none-empty, variable-sign}
use Rattle.deduction_laws.specs.Readings.{Fits as ReadingsFit}
use Rattle.deduction_laws.specs.Terms.{terms-sound}
use Rattle.deduction_laws.specs.Deduction.{deduce-sound}
use Rattle.deduction_laws.specs.TwoAtoms.{tries-sound}
use Rattle.normal_laws.specs.Keeps.{normal-holds, constant-sign, monomial-one}
use Rattle.level_laws.specs.Respects.{Fits, Respects}
use Rattle.laws.specs.Readings.{place-by-place}

-- ---- Degrees.

-- No degree is above 15 for each variable.
degree-small : (n m : ℕ) → degree n m ≤ 15 * n
unfolding degree exponent
degree-small zero m = omega arith
degree-small (suc n) m = omega (arith, degree-small n m, small (m / 16 ^ n))
  where
    small : (k : ℕ) → k % 16 ≤ 15
    small k = omega arith

-- All terms have at most this degree.
data UpTo (n d : ℕ) : Polynomial → Type 0 where
  no_terms : UpTo n d []
  terms : {t : Term} {ts : Polynomial} → degree n t.monomial ≤ d → UpTo n d ts → UpTo n d (t ∷ ts)

up-to-more : {n d e : ℕ} {p : Polynomial} → d ≤ e → UpTo n d p → UpTo n e p
up-to-more h no_terms = no_terms
up-to-more {n} h (terms {t} k ks) = terms {t = t} (omega (arith, h, k)) (up-to-more h ks)

first-max : (a b : ℕ) → a ≤ max a b
first-max a b = omega arith

second-max : (a b : ℕ) → b ≤ max a b
second-max a b = omega arith

up-to-total : (n : ℕ) (p : Polynomial) → UpTo n (total_degree n p) p
unfolding total_degree
up-to-total n [] = no_terms
up-to-total n (t ∷ ts) =
    terms (first-max (degree n t.monomial) (total_degree n ts)) (up-to-more (second-max (degree n t.monomial) (total_degree n ts)) (up-to-total n ts))

total-small : (n : ℕ) (p : Polynomial) → total_degree n p ≤ 15 * n
unfolding total_degree
total-small n [] = omega arith
total-small n (t ∷ ts) = omega (arith, degree-small n t.monomial, total-small n ts)

-- ---- Powers of a number above 0.

power-positive : (d : ℕ) → 0 < d → (k : ℕ) → pow (pos d) k ∈ 1
unfolding has only
power-positive d h k = by_sign positive (power-above-zero (record { numerators = []; denominator = d; many = refl; above_zero = h }) k) refl

-- ---- A larger power of the denominator.

power-sum : (z : ℤ) (a b : ℕ) → pow z (a + b) ≡ pow z a *ℤ pow z b
unfolding pow one
power-sum z a zero = ap (pow z) (none a) ∙ sym (*ℤ-one (pow z a))
  where
    none : (a : ℕ) → a + 0 ≡ a
    none a = omega arith
power-sum z a (suc b) = ap (pow z) (more a b) ∙ ap (λ (w : ℤ). w *ℤ z) (power-sum z a b) ∙ *ℤ-assoc (pow z a) (pow z b) z
  where
    more : (a b : ℕ) → a + suc b ≡ suc (a + b)
    more a b = omega arith

module _ (numerators : List ℤ) (denominator : ℕ) where
  abbrev over : ℕ → ℕ → ℤ
  over = monomial_over numerators denominator

  raised-monomial : (d e m : ℕ) → degree (length numerators) m ≤ d → d ≤ e → over e m ≡ over d m *ℤ pow (pos denominator) (e - d)
  unfolding monomial_over
  raised-monomial d e m h k = ap (λ (i : ℕ). monomial_at numerators m *ℤ pow (pos denominator) i) (parts (degree (length numerators) m) h k)
      ∙ ap (λ (z : ℤ). monomial_at numerators m *ℤ z) (power-sum (pos denominator) (d - degree (length numerators) m) (e - d))
      ∙ sym (*ℤ-assoc (monomial_at numerators m) (pow (pos denominator) (d - degree (length numerators) m)) (pow (pos denominator) (e - d)))
    where
      parts : (f : ℕ) → f ≤ d → d ≤ e → e - f ≡ d - f + (e - d)
      parts f h k = omega arith

  raised-value : (d e : ℕ) {p : Polynomial} → UpTo (length numerators) d p → d ≤ e → value_by (over e) p ≡ value_by (over d) p *ℤ pow (pos denominator) (e - d)
  unfolding value_by
  raised-value d e no_terms k = sym (zero-*ℤ (pow (pos denominator) (e - d)))
  raised-value d e (terms {t} {ts} h hs) k =
      ap₂ (λ (x y : ℤ). t.coefficient *ℤ x +ℤ y) (raised-monomial d e t.monomial h k) (raised-value d e hs k)
      ∙ solve (t.coefficient ∷ over d t.monomial ∷ pow (pos denominator) (e - d) ∷ value_by (over d) ts ∷ [])
      (# 0 :* (# 1 :* # 2) :+ # 3 :* # 2) ((# 0 :* # 1 :+ # 3) :* # 2) tt

-- ---- The signs at a choice of fractions for the n variables.

module _ {n : ℕ} (choice : Choice n) where
  abbrev numerators : List ℤ
  numerators = choice.numerators

  -- A power of the denominator, and the largest degree that any monomial has.
  abbrev raised : ℕ → ℤ
  raised k = pow (pos choice.denominator) k

  abbrev largest : ℕ
  largest = 15 * length numerators

  raised-positive : (k : ℕ) → raised k ∈ 1
  raised-positive k = power-positive choice.denominator choice.above_zero k

  -- The values of the monomials with one power that serves all polynomials.
  abbrev common : ℕ → ℤ
  common = monomial_over numerators choice.denominator largest

  common-sign : (p : Polynomial) → sign_of (value_by common p) ≡ sign_over numerators choice.denominator p
  unfolding sign_over
  common-sign p = let d = total_degree (length numerators) p in
      ap sign_of (raised-value numerators choice.denominator d largest (up-to-total (length numerators) p) (total-small (length numerators) p))
      ∙ sign-times (value_by (monomial_over numerators choice.denominator d) p) (raised-positive (largest - d))

  -- A monomial has the sign that it has at the numerators, and so has a polynomial of one term.
  monomial-sign : (m : ℕ) → sign_of (common m) ≡ sign_of (monomial_at numerators m)
  unfolding monomial_over
  monomial-sign m = sign-times (monomial_at numerators m) (raised-positive (largest - degree (length numerators) m))

  one-term : (t : Term) → sign_of (value_by common (t ∷ [])) ≡ sign_at numerators (t ∷ [])
  unfolding sign_at value_by monomial_over
  one-term t = let k = largest - degree (length numerators) t.monomial in
      ap sign_of (solve (t.coefficient ∷ monomial_at numerators t.monomial ∷ raised k ∷ [])
      (# 0 :* (# 1 :* # 2) :+ con (pos 0)) ((# 0 :* # 1 :+ con (pos 0)) :* # 2) tt)
      ∙ sign-times (t.coefficient *ℤ monomial_at numerators t.monomial +ℤ pos 0) (raised-positive k)

  fits : (board : Board) → Fits (λ p. sign_of (value_by common p)) n board → ReadingsFit numerators board
  unfolding variable
  fits board f = place-by-place numerators board (f.long ∙ sym choice.many)
      (λ i h. subst (λ s. s In get_or board i full) (one-term _ ∙ variable-sign numerators choice.many (rw (← choice.many) h)) (f.each i))

  monomials-fit : {board : Board} → ReadingsFit numerators board → (m : ℕ) → common m ∈ monomial_sign board m
  monomials-fit f m = by-same-sign (monomial-sign m) (monomial-sound f m)

  constants : (p : Polynomial) (c : ℤ) → constant p ≡ some c → sign_of (value_by common p) ≡ sign_of c
  unfolding sign_at constant value_by
  constants [] c e = constant-sign (monomial_at numerators) [] c e (monomial-one numerators)
  constants (t ∷ []) c e = one-term t ∙ constant-sign (monomial_at numerators) (t ∷ []) c e (monomial-one numerators)
  constants (t ∷ u ∷ us) c e = absurd (none-ne-some c e)

  common-respected : Respects (λ p. sign_of (value_by common p)) n
  unfolding atom_holds
  common-respected = record {
    by_deduction = λ board p q f h. (deduce-sound common board (monomials-fit (fits board f)) (none-empty (fits board f)) p q (record { sign = record { is = h } })).sign;
    by_pairs = λ board p f h. every-wider (λ s k. k.sign)
        (tries-sound common board (monomials-fit (fits board f)) p (every-wider (λ q k. record { sign = record { is = k } }) h));
    by-terms = λ board p f. (terms-sound common board (monomials-fit (fits board f)) p).sign;
    by_normal = normal-holds common;
    by_constant = constants;
  }

  pub respected-over : Respects (sign_over numerators choice.denominator) n
  respected-over = subst (λ (sign : Polynomial → Sign). Respects sign n) (λ i p. common-sign p i) common-respected

-- ---- How a fraction is written makes no difference: 125 over 10 is 25 over 2.

-- The readings with each numerator so many times as large.
unfoldable pub times_each : ℕ → List ℤ → List ℤ
times_each k xs = map (λ (x : ℤ). x *ℤ pos k) xs

power-product : (x y : ℤ) (e : ℕ) → pow (x *ℤ y) e ≡ pow x e *ℤ pow y e
unfolding pow one
power-product x y zero = refl
power-product x y (suc e) = ap (λ (z : ℤ). z *ℤ (x *ℤ y)) (power-product x y e)
    ∙ solve (pow x e ∷ pow y e ∷ x ∷ y ∷ []) (# 0 :* # 1 :* (# 2 :* # 3)) (# 0 :* # 2 :* (# 1 :* # 3)) tt

each-length : (k : ℕ) (xs : List ℤ) → length (times_each k xs) ≡ length xs
unfolding times_each
each-length k [] = refl
each-length k (x ∷ xs) = ap suc (each-length k xs)

monomial-times : (k m : ℕ) (xs : List ℤ) → monomial_at (times_each k xs) m ≡ monomial_at xs m *ℤ pow (pos k) (degree (length xs) m)
unfolding monomial_at degree times_each pow one
monomial-times k m [] = refl
monomial-times k m (x ∷ xs) = let e = exponent m (length xs) in
    ap₂ (λ (n : ℕ) (z : ℤ). pow (x *ℤ pos k) (exponent m n) *ℤ z) (each-length k xs) (monomial-times k m xs)
    ∙ ap (λ (z : ℤ). z *ℤ (monomial_at xs m *ℤ pow (pos k) (degree (length xs) m))) (power-product x (pos k) e)
    ∙ solve (pow x e ∷ pow (pos k) e ∷ monomial_at xs m ∷ pow (pos k) (degree (length xs) m) ∷ []) (# 0 :* # 1 :* (# 2 :* # 3)) (# 0 :* # 2 :* (# 1 :* # 3)) tt
    ∙ ap (λ (z : ℤ). pow x e *ℤ monomial_at xs m *ℤ z) (sym (power-sum (pos k) e (degree (length xs) m)))

module _ (k d : ℕ) (xs : List ℤ) where
  over-times : (f m : ℕ) → degree (length xs) m ≤ f → monomial_over (times_each k xs) (d * k) f m ≡ monomial_over xs d f m *ℤ pow (pos k) f
  unfolding monomial_over
  over-times f m h = let g = degree (length xs) m in
      ap₂ (λ (z : ℤ) (n : ℕ). z *ℤ pow (pos (d * k)) (f - degree n m)) (monomial-times k m xs) (each-length k xs)
      ∙ ap (λ (z : ℤ). monomial_at xs m *ℤ pow (pos k) g *ℤ z) (power-product (pos d) (pos k) (f - g))
      ∙ solve (monomial_at xs m ∷ pow (pos k) g ∷ pow (pos d) (f - g) ∷ pow (pos k) (f - g) ∷ []) (# 0 :* # 1 :* (# 2 :* # 3)) (# 0 :* # 2 :* (# 1 :* # 3)) tt
      ∙ ap (λ (z : ℤ). monomial_at xs m *ℤ pow (pos d) (f - g) *ℤ z) (sym (power-sum (pos k) g (f - g)) ∙ ap (pow (pos k)) (whole g h))
    where
      whole : (g : ℕ) → g ≤ f → g + (f - g) ≡ f
      whole g h = omega arith

  value-times : (f : ℕ) {p : Polynomial} → UpTo (length xs) f p → value_by (monomial_over (times_each k xs) (d * k) f) p ≡ value_by (monomial_over xs d f) p *ℤ pow (pos k) f
  unfolding value_by
  value-times f no_terms = sym (zero-*ℤ (pow (pos k) f))
  value-times f (terms {t} {ts} h hs) =
      ap₂ (λ (x y : ℤ). t.coefficient *ℤ x +ℤ y) (over-times f t.monomial h) (value-times f hs)
      ∙ solve (t.coefficient ∷ monomial_over xs d f t.monomial ∷ pow (pos k) f ∷ value_by (monomial_over xs d f) ts ∷ [])
      (# 0 :* (# 1 :* # 2) :+ # 3 :* # 2) ((# 0 :* # 1 :+ # 3) :* # 2) tt

  -- The sign is that of the fractions, and not of how they are written.
  pub same-fractions : 0 < k → (p : Polynomial) → sign_over (times_each k xs) (d * k) p ≡ sign_over xs d p
  unfolding sign_over
  same-fractions h p = let f = total_degree (length xs) p in
      ap (λ (n : ℕ). sign_of (value_by (monomial_over (times_each k xs) (d * k) (total_degree n p)) p)) (each-length k xs)
      ∙ ap sign_of (value-times f (up-to-total (length xs) p)) ∙ sign-times (value_by (monomial_over xs d f) p) (power-positive k h f)

-- ---- Denominator 1: the whole numbers.

one_power : (k : ℕ) → pow (pos 1) k ≡ pos 1
unfolding pow one
one_power zero = refl
one_power (suc k) = *ℤ-one (pow (pos 1) k) ∙ one_power k

whole-value : (readings : List ℤ) (d : ℕ) (p : Polynomial) → value_by (monomial_over readings 1 d) p ≡ value_by (monomial_at readings) p
unfolding value_by monomial_over one
whole-value readings d [] = refl
whole-value readings d (t ∷ ts) = ap₂ (λ (x y : ℤ). t.coefficient *ℤ x +ℤ y)
    (ap (λ (z : ℤ). monomial_at readings t.monomial *ℤ z) (one_power (d - degree (length readings) t.monomial)) ∙ *ℤ-one (monomial_at readings t.monomial))
    (whole-value readings d ts)

-- "The whole-number statement becomes the case of denominator 1": a formula holds at whole numbers exactly if it holds over 1.
pub whole-holds : {n : ℕ} (readings : List ℤ) (many : length readings ≡ n) (tree : Node Atom) → holds_over (whole_numbers readings many) tree ≡ holds_at readings tree
unfolding holds_over holds_at sign_over sign_at whole_numbers
whole-holds readings many tree = ap (λ (sign : Polynomial → Sign). holds sign tree) (λ i p. sign_of (whole-value readings (total_degree (length readings) p) p i))
