-- Equations of ℤ by computation: `solve variables left right tt`, where both sides are written over the variables' numbers.
-- Each side is multiplied out into a list of terms; the two are equal if in their difference all coefficients are 0.
use Rattle.std.specs.Prelude.{◌≡◌, Bool, true, false, ◌&&◌, T, leb, ℤ, pos, negsuc, neg_ℤ, ◌+ℤ◌, ◌*ℤ◌, ◌-ℤ◌}
use Rattle.std.proofs.Math.Path.{refl, sym}
use Rattle.std.proofs.Common.{ap, ◌∙◌, arith, eqb→eq}
use mathlib.Core.List.{List, [], ◌∷◌}
use Prim.Native.Nat.{ℕ, zero, suc, compare, Ordering}
use Rattle.std.proofs.Math.Dec.{compare_is_eq}
use Rattle.std.specs.Float.Ieee.Fits.{and_l, and_r}
use Rattle.std.proofs.Math.IntN.{one, +ℤ_idl, +ℤ_idr, +ℤ_assoc, -ℤ-+ℤ_cancel, *ℤ-zero, zero-*ℤ}
use Rattle.whole.specs.Differences.{own, ◌plus◌, ◌times◌, negated, equal, one-*ℤ, *ℤ-+ℤ, +ℤ-*ℤ, *ℤ-assoc, *ℤ-left-comm, +ℤ-left-comm}

-- ---- The two sides as they are written.

infixl 6 ◌:+◌ ◌:-◌
infixl 7 ◌:*◌
-- Variables by their numbers, constants, sums, differences, products and negations.
pub data Expression : Type 0 where
  # : ℕ → Expression
  con : ℤ → Expression
  ◌:+◌ ◌:-◌ ◌:*◌ : Expression → Expression → Expression
  neg : Expression → Expression

-- The variable of a number.
abbrev pub variable : List ℤ → ℕ → ℤ
variable [] i = pos 0
variable (x ∷ xs) zero = x
variable (x ∷ xs) (suc i) = variable xs i

-- The value of a side.
abbrev pub value : List ℤ → Expression → ℤ
value xs (# i) = variable xs i
value xs (con z) = z
value xs (e :+ f) = value xs e +ℤ value xs f
value xs (e :- f) = value xs e -ℤ value xs f
value xs (e :* f) = value xs e *ℤ value xs f
value xs (neg e) = neg_ℤ (value xs e)

-- ---- Multiplied out: terms in order, each a coefficient and the numbers of its variables in order.

abbrev Factors : Type 0
Factors = List ℕ

-- A coefficient times its factors.
pub record Term : Type 0 where
  pub coefficient : ℤ
  pub factors : Factors

-- How two lists of factors stand to one another.
pub data Order : Type 0 where
  before same behind : Order

abbrev by_first : Ordering → Order → Order
by_first Ordering.lt rest = before
by_first Ordering.eq rest = rest
by_first Ordering.gt rest = behind

abbrev order : Factors → Factors → Order
order [] [] = same
order [] (y ∷ ys) = before
order (x ∷ xs) [] = behind
order (x ∷ xs) (y ∷ ys) = by_first (compare x y) (order xs ys)

abbrev with_factor : ℕ → Factors → Factors
with_factor i [] = i ∷ []
with_factor i (j ∷ js) = elim (leb i j) [ true ↦ i ∷ j ∷ js | false ↦ j ∷ with_factor i js ]

abbrev with_factors : Factors → Factors → Factors
with_factors [] js = js
with_factors (i ∷ is) js = with_factor i (with_factors is js)

abbrev add_term : ℤ → Factors → List Term → List Term
add_term c m [] = record { coefficient = c; factors = m } ∷ []
add_term c m (t ∷ ts) = elim (order m t.factors) [
  | before ↦ record { coefficient = c; factors = m } ∷ t ∷ ts
  | same ↦ record { coefficient = c +ℤ t.coefficient; factors = t.factors } ∷ ts
  | behind ↦ t ∷ add_term c m ts
]

abbrev add_terms : List Term → List Term → List Term
add_terms [] us = us
add_terms (t ∷ ts) us = add_term t.coefficient t.factors (add_terms ts us)

abbrev times_term : ℤ → Factors → List Term → List Term
times_term c m [] = []
times_term c m (t ∷ ts) = add_term (c *ℤ t.coefficient) (with_factors m t.factors) (times_term c m ts)

abbrev times_terms : List Term → List Term → List Term
times_terms [] us = []
times_terms (t ∷ ts) us = add_terms (times_term t.coefficient t.factors us) (times_terms ts us)

abbrev multiplied_out : Expression → List Term
multiplied_out (# i) = record { coefficient = pos 1; factors = i ∷ [] } ∷ []
multiplied_out (con z) = record { coefficient = z; factors = [] } ∷ []
multiplied_out (e :+ f) = add_terms (multiplied_out e) (multiplied_out f)
multiplied_out (e :- f) = add_terms (multiplied_out e) (times_term (negsuc 0) [] (multiplied_out f))
multiplied_out (e :* f) = times_terms (multiplied_out e) (multiplied_out f)
multiplied_out (neg e) = times_term (negsuc 0) [] (multiplied_out e)

abbrev is_zero : ℤ → Bool
is_zero (pos zero) = true
is_zero (pos (suc n)) = false
is_zero (negsuc n) = false

abbrev all_zero : List Term → Bool
all_zero [] = true
all_zero (t ∷ ts) = is_zero t.coefficient && all_zero ts

-- The difference of the two sides multiplies out to nothing.
abbrev pub agree : Expression → Expression → Bool
agree e f = all_zero (multiplied_out (e :- f))

-- ---- The value of what is multiplied out.

by-test : {A : Type 0} (P : A → Type 0) (b : Bool) (x y : A) → P x → P y → P (elim b [ true ↦ x | false ↦ y ])
by-test P true x y f g = f
by-test P false x y f g = g

by_order : {A : Type 0} (P : A → Type 0) (o : Order) (x y z : A) → P x → (o ≡ same → P y) → P z → P (elim o [ before ↦ x | same ↦ y | behind ↦ z ])
by_order P before x y z f g h = f
by_order P same x y z f g h = g refl
by_order P behind x y z f g h = h

same_first : (o : Ordering) (rest : Order) → by_first o rest ≡ same → T (compare_is_eq o) × (rest ≡ same)
same_first Ordering.lt rest e = absurd (let z : ◌≡◌ {A = ℕ} 0 1 = cc in omega arith)
same_first Ordering.eq rest e = (tt, e)
same_first Ordering.gt rest e = absurd (let z : ◌≡◌ {A = ℕ} 0 1 = cc in omega arith)

same-factors : (xs ys : Factors) → order xs ys ≡ same → xs ≡ ys
same-factors [] [] e = refl
same-factors [] (y ∷ ys) e = cc
same-factors (x ∷ xs) [] e = cc
same-factors (x ∷ xs) (y ∷ ys) e = let h = same_first (compare x y) (order xs ys) e in cc (eqb→eq x y h.0, same-factors xs ys h.1)

product : List ℤ → Factors → ℤ
product xs [] = pos 1
product xs (i ∷ is) = variable xs i *ℤ product xs is

total : List ℤ → List Term → ℤ
total xs [] = pos 0
total xs (t ∷ ts) = t.coefficient *ℤ product xs t.factors +ℤ total xs ts

joined : (c d x y : ℤ) → (c +ℤ d) *ℤ x +ℤ y ≡ c *ℤ x +ℤ (d *ℤ x +ℤ y)
joined c d x y = equal ((own c plus own d) times own x plus own y) (own c times own x plus (own d times own x plus own y)) (omega arith)

regrouped : (c m d n : ℤ) → c *ℤ d *ℤ (m *ℤ n) ≡ c *ℤ m *ℤ (d *ℤ n)
regrouped c m d n = equal (own c times own d times (own m times own n)) (own c times own m times (own d times own n)) (omega arith)

spread : (c m d n y : ℤ) → c *ℤ d *ℤ (m *ℤ n) +ℤ c *ℤ m *ℤ y ≡ c *ℤ m *ℤ (d *ℤ n +ℤ y)
spread c m d n y = ap (λ z. z +ℤ c *ℤ m *ℤ y) (regrouped c m d n) ∙ sym (*ℤ-+ℤ (c *ℤ m) (d *ℤ n) y)

module _ (xs : List ℤ) where
  with-factor : (i : ℕ) (js : Factors) → product xs (with_factor i js) ≡ variable xs i *ℤ product xs js
  unfolding product
  with-factor i [] = refl
  with-factor i (j ∷ js) = by-test (λ (ks : Factors). product xs ks ≡ variable xs i *ℤ (variable xs j *ℤ product xs js)) (leb i j) _ _ refl
      (rw (with-factor i js) (*ℤ-left-comm (variable xs j) (variable xs i) (product xs js)))

  with-factors : (is js : Factors) → product xs (with_factors is js) ≡ product xs is *ℤ product xs js
  unfolding product one
  with-factors [] js = sym (one-*ℤ (product xs js))
  with-factors (i ∷ is) js = with-factor i (with_factors is js) ∙ rw (with-factors is js) (sym (*ℤ-assoc (variable xs i) (product xs is) (product xs js)))

  add-term : (c : ℤ) (m : Factors) (ts : List Term) → total xs (add_term c m ts) ≡ c *ℤ product xs m +ℤ total xs ts
  unfolding total
  add-term c m [] = refl
  add-term c m (t ∷ ts) = by_order (λ (us : List Term). total xs us ≡ c *ℤ product xs m +ℤ (t.coefficient *ℤ product xs t.factors +ℤ total xs ts))
      (order m t.factors) _ _ _
      refl
      (λ e. rw (same-factors m t.factors e) (joined c t.coefficient (product xs t.factors) (total xs ts)))
      (rw (add-term c m ts) (+ℤ-left-comm (t.coefficient *ℤ product xs t.factors) (c *ℤ product xs m) (total xs ts)))

  add-terms : (ts us : List Term) → total xs (add_terms ts us) ≡ total xs ts +ℤ total xs us
  unfolding total
  add-terms [] us = sym (+ℤ_idl (total xs us))
  add-terms (t ∷ ts) us = add-term t.coefficient t.factors (add_terms ts us)
      ∙ rw (add-terms ts us) (sym (+ℤ_assoc (t.coefficient *ℤ product xs t.factors) (total xs ts) (total xs us)))

  times-term : (c : ℤ) (m : Factors) (ts : List Term) → total xs (times_term c m ts) ≡ c *ℤ product xs m *ℤ total xs ts
  unfolding total
  times-term c m [] = sym (*ℤ-zero (c *ℤ product xs m))
  times-term c m (t ∷ ts) = add-term (c *ℤ t.coefficient) (with_factors m t.factors) (times_term c m ts)
      ∙ rw (times-term c m ts, with-factors m t.factors) (spread c (product xs m) t.coefficient (product xs t.factors) (total xs ts))

  times-terms : (ts us : List Term) → total xs (times_terms ts us) ≡ total xs ts *ℤ total xs us
  unfolding total
  times-terms [] us = sym (zero-*ℤ (total xs us))
  times-terms (t ∷ ts) us = add-terms (times_term t.coefficient t.factors us) (times_terms ts us)
      ∙ rw (times-term t.coefficient t.factors us, times-terms ts us)
      (sym (+ℤ-*ℤ (t.coefficient *ℤ product xs t.factors) (total xs ts) (total xs us)))

  times-minus-one : (x : ℤ) → negsuc 0 *ℤ pos 1 *ℤ x ≡ neg_ℤ x
  times-minus-one x = equal (own (negsuc 0) times own (pos 1) times own x) (negated (own x)) (omega arith)

  multiplied-out : (e : Expression) → total xs (multiplied_out e) ≡ value xs e
  unfolding total product
  multiplied-out (# i) = equal (own (pos 1) times (own (variable xs i) times own (pos 1)) plus own (pos 0)) (own (variable xs i)) (omega arith)
  multiplied-out (con z) = equal (own z times own (pos 1) plus own (pos 0)) (own z) (omega arith)
  multiplied-out (e :+ f) = add-terms (multiplied_out e) (multiplied_out f) ∙ rw (multiplied-out e, multiplied-out f)
  multiplied-out (e :- f) = add-terms (multiplied_out e) (times_term (negsuc 0) [] (multiplied_out f))
      ∙ rw (times-term (negsuc 0) [] (multiplied_out f), multiplied-out e, multiplied-out f) (ap (λ x. value xs e +ℤ x) (times-minus-one (value xs f)))
  multiplied-out (e :* f) = times-terms (multiplied_out e) (multiplied_out f) ∙ rw (multiplied-out e, multiplied-out f)
  multiplied-out (neg e) = times-term (negsuc 0) [] (multiplied_out e) ∙ rw (multiplied-out e) (times-minus-one (value xs e))

  is-zero : (z : ℤ) → T (is_zero z) → z ≡ pos 0
  is-zero (pos zero) t = refl
  is-zero (pos (suc n)) t = absurd t
  is-zero (negsuc n) t = absurd t

  all-zero : (ts : List Term) → T (all_zero ts) → total xs ts ≡ pos 0
  unfolding total
  all-zero [] h = refl
  all-zero (t ∷ ts) h =
      rw (is-zero t.coefficient (and_l (is_zero t.coefficient) (all_zero ts) h), all-zero ts (and_r (is_zero t.coefficient) (all_zero ts) h))
      (+ℤ_idr (pos 0 *ℤ product xs t.factors) ∙ zero-*ℤ (product xs t.factors))

  -- Two expressions whose difference multiplies out to nothing have the same value, whatever the variables are.
  pub solve : (e f : Expression) → T (agree e f) → value xs e ≡ value xs f
  solve e f t = sym (-ℤ-+ℤ_cancel (value xs e) (value xs f))
      ∙ ap (λ x. x +ℤ value xs f) (sym (multiplied-out (e :- f)) ∙ all-zero (multiplied_out (e :- f)) t) ∙ +ℤ_idl (value xs f)
