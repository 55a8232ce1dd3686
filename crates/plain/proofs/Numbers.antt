-- Numbers of 64 signed bits: what fits, what is read back from its bits, and the terms of a listed fraction.
use mathlib.Core.Path.{◌≡◌, refl, sym, ap, ◌∙◌, subst}
use mathlib.Core.Bool.{true, false, true≢false, false≢true}
use Prim.Native.Nat.{ℕ, zero, suc, ◌+◌, ◌*◌, ◌≤◌, ◌<◌}
use native.Mathlib.Nat.{eq-or-lt_of_le}
use native.Mathlib.Omega.{arith}
use borrow.Author.Tests.{ltb-true, ltb-false}
use mathlib.Core.List.{List, [], ◌∷◌}
use mathlib.Core.Logic.{◌⊎◌, inl, inr}
use lib.IntN.{ℤ, pos, negsuc, neg_ℤ, nat_abs, ◌+ℤ◌, ◌-ℤ◌, ◌*ℤ◌, +ℤ_idl}
use lib.ListN.{get_or}
use lib.Signed.{lt_z}
use mir.Syntax.{w32, w64}
use mir.Val.{SFits, to_z, of_z}
use mir.ValLaws.{to_z-of_z}
use Rattle.rules.specs.Deduce.{Fraction, denominator, End, free, at, is_zero}
use Rattle.interval.specs.Ends.{end_at, There}
use Rattle.interval.specs.declared.interval.End.{End as KeptEnd}
use Rattle.plain.specs.Met.{beside}
use Rattle.whole.specs.Solver.{#, con, ◌:+◌, ◌:-◌, ◌:*◌, solve}
use Rattle.rules.specs.Signs.{sign_of, only}
use Rattle.rules.specs.Plain.{sign_at, one_less, one_more, between}
use Rattle.plain_laws.specs.Bounds.{largest, Small, magnitude-sum, magnitude-negated, product-fits}
use Rattle.plain_laws.specs.Same.{sign-at}
use Rattle.deduce.specs.Merge.{AtMost}
use Rattle.plain.specs.declared.value.Value.{Value}
use Rattle.plain.specs.Values.{Is, Held}

pub fits : {z : ℤ} → nat_abs z ≤ 9223372036854775807 → SFits w64 z
fits {z = pos n} h = record { sfits = omega (arith, h) }
fits {z = negsuc n} h = record { sfits = omega (arith, h) }

pub widened : {z : ℤ} → SFits w32 z → SFits w64 z
widened {z} f = record { sfits = omega (arith, f.sfits) }

pub magnitude : {z : ℤ} → SFits w32 z → nat_abs z ≤ 2147483648
magnitude {z = pos n} f = omega (arith, f.sfits)
magnitude {z = negsuc n} f = omega (arith, f.sfits)

-- a number of 32 bits, widened
pub wide : {z : ℤ} → SFits w32 z → to_z w64 (of_z w64 (to_z w32 (of_z w32 z))) ≡ z
wide {z} f = rw (to_z-of_z w32 z f) (to_z-of_z w64 z (widened f))

pub negated_fits : {z : ℤ} → SFits w32 z → SFits w64 (pos 0 -ℤ z)
negated_fits {z} f = fits (rw (+ℤ_idl (neg_ℤ z), magnitude-negated z) (omega (arith, magnitude f)))

pub at_same : {t u : Fraction} → at t ≡ at u → t ≡ u
at_same {t} e = ap (λ (x : End). elim x as (λ _. Fraction) [ free ↦ t | at r ↦ r ]) e

pub no_end : {X : Type 0} {t : Fraction} → free ≡ at t → X
no_end e = absurd (coerce e)
  where
    coerce : {t : Fraction} → free ≡ at t → ⊥
    coerce e = subst (λ (x : End). elim x as (λ _. Type 0) [ free ↦ Unit {0} | at r ↦ ⊥ ]) e tt

-- -a/b, where b is below 0
pub falling-terms : (a b : ℤ) (t : Fraction) → lt_z b (pos 0) ≡ true → end_at a b ≡ at t → (a ≡ t.numerator) × (pos 0 -ℤ b ≡ denominator t)
falling-terms a (pos n) t h e = absurd (omega (arith, ltb-true n 0 h))
falling-terms a (negsuc n) t h e = let s = at_same e in (ap (λ (t : Fraction). t.numerator) s, +ℤ_idl (pos (suc n)) ∙ ap denominator s)

-- and where it is above
pub rising-terms : (a b : ℤ) (t : Fraction) → lt_z b (pos 0) ≡ false → end_at a b ≡ at t → (pos 0 -ℤ a ≡ t.numerator) × (b ≡ denominator t)
rising-terms a (pos zero) t h e = no_end e
rising-terms a (pos (suc n)) t h e = let s = at_same e in (+ℤ_idl (neg_ℤ a) ∙ ap (λ (t : Fraction). t.numerator) s, ap denominator s)
rising-terms a (negsuc n) t h e = absurd (true≢false h)

-- ---- the terms of a value

pub back : (z : ℤ) → nat_abs z ≤ 9223372036854775807 → to_z w64 (of_z w64 z) ≡ z
back z h = to_z-of_z w64 z (fits h)

pub held-c : {v : Value} → Held (2 * largest) v → nat_abs v.c ≤ 4294967294
held-c h = rw h.is.c h.small.numerator

pub held-d : {v : Value} → Held (2 * largest) v → nat_abs v.d ≤ 4294967294
held-d h = rw h.is.d h.small.denominator

pub wider : {n : ℕ} → n ≤ 4294967294 → n ≤ 9223372036854775807
wider h = omega arith

minus : (z : ℤ) → nat_abs (pos 0 -ℤ z) ≡ nat_abs z
minus z = ap nat_abs (+ℤ_idl (neg_ℤ z)) ∙ magnitude-negated z

pub minus-in : (z : ℤ) {n : ℕ} → nat_abs z ≤ n → nat_abs (pos 0 -ℤ z) ≤ n
minus-in z h = rw (minus z) h

-- each product fits
pub product-in : (x y : ℤ) {m n : ℕ} → nat_abs x ≤ m → nat_abs y ≤ n → m * n ≤ 9223372036854775807 → nat_abs (x *ℤ y) ≤ 9223372036854775807
product-in x y {m} {n} h k l = omega (arith, product-fits x y m n h k)

-- and their order is the sign
between-products : (a b c d : ℤ) → (a *ℤ d) -ℤ ((pos 0 -ℤ c) *ℤ b) ≡ a *ℤ d +ℤ c *ℤ b
between-products a b c d = solve (a ∷ b ∷ c ∷ d ∷ []) (# 0 :* # 3 :- (con (pos 0) :- # 2) :* # 1) (# 0 :* # 3 :+ # 2 :* # 1) tt

pub compared : (t : Fraction) {v : Value} (a b : ℤ) → Is v t → only (sign_of ((a *ℤ v.d) -ℤ ((pos 0 -ℤ v.c) *ℤ b))) ≡ only (sign_at t a b)
compared t {v} a b i = rw (i.c, i.d) (ap (λ (z : ℤ). only (sign_of z)) (between-products a b t.numerator (denominator t)) ∙ ap only (sym (sign-at t a b)))

-- ---- sums of listed terms

pub sum-in : (x y : ℤ) → nat_abs x ≤ 2147483647 → nat_abs y ≤ 2147483647 → nat_abs (x +ℤ y) ≤ 9223372036854775807
sum-in x y h k = omega (arith, magnitude-sum x y)

pub difference-in : (x y : ℤ) → nat_abs x ≤ 2147483647 → nat_abs y ≤ 2147483647 → nat_abs (x -ℤ y) ≤ 9223372036854775807
difference-in x y h k = omega (arith, magnitude-sum x (neg_ℤ y), magnitude-negated y)

pub term_in : {n : ℕ} → n ≤ 2147483647 → n ≤ 9223372036854775807
term_in h = omega arith

pub listed-c : {v : Value} {t : Fraction} → Is v t → Small largest t → nat_abs v.c ≤ 2147483647
listed-c i s = rw i.c s.numerator

pub listed-d : {v : Value} {t : Fraction} → Is v t → Small largest t → nat_abs v.d ≤ 2147483647
listed-d i s = rw i.d s.denominator

pub less-is : {c d : ℤ} {t : Fraction} → c ≡ t.numerator → d ≡ denominator t → Is (record { c = c -ℤ d; d = d }) (one_less t)
less-is e f = record { c = rw (e, f); d = f }

pub more-is : {c d : ℤ} {t : Fraction} → c ≡ t.numerator → d ≡ denominator t → Is (record { c = c +ℤ d; d = d }) (one_more t)
more-is e f = record { c = rw (e, f); d = f }

pub between_is : {c d x y : ℤ} {t u : Fraction} → c ≡ t.numerator → d ≡ denominator t → x ≡ u.numerator → y ≡ denominator u
    → Is (record { c = c +ℤ x; d = d +ℤ y }) (between t u)
between_is {t = t} {u = u} e f g h = record { c = rw (e, g); d = rw (f, h) (ap pos (two t.less u.less)) }
  where
    two : (m n : ℕ) → suc m + suc n ≡ suc (suc (m + n))
    two m n = omega arith

-- ---- a neighbour that is there or not

pub none_there : (a b : ℤ) → is_zero b ≡ true → end_at a b ≡ free
unfolding is_zero
none_there a (pos zero) e = refl
none_there a (pos (suc n)) e = absurd (false≢true e)
none_there a (negsuc n) e = absurd (false≢true e)

there-by : (e : KeptEnd) (b : ℤ) → e.b ≡ b → is_zero b ≡ false → There e
unfolding is_zero
there-by e (pos zero) k h = absurd (true≢false h)
there-by e (pos (suc n)) k h = record { fraction = record { numerator = neg_ℤ e.a; less = n }; is = ap (end_at e.a) k }
there-by e (negsuc n) k h = record { fraction = record { numerator = e.a; less = n }; is = ap (end_at e.a) k }

pub is-there : (e : KeptEnd) → is_zero e.b ≡ false → There e
is-there e h = there-by e e.b refl h

pub none_beside : (t : Fraction) {v : Value} {e : End} → e ≡ free → Is v (one_more t) → Is v (beside t e)
unfolding beside
none_beside t {v} h i = subst (λ (e : End). Is v (beside t e)) (sym h) i

pub one-beside : (t u : Fraction) {v : Value} {e : End} → e ≡ at u → Is v (between t u) → Is v (beside t e)
unfolding beside
one-beside t u {v} h i = subst (λ (e : End). Is v (beside t e)) (sym h) i

-- ---- which coefficients a block has

pub is-small : {z : ℤ} → SFits w32 z → lt_z z (negsuc 2147483646) ≡ false → nat_abs z ≤ largest
is-small {z = pos n} f h = omega (arith, f.sfits)
is-small {z = negsuc n} f h = omega (arith, ltb-false 2147483646 n h)

pub not-small : (z : ℤ) → lt_z z (negsuc 2147483646) ≡ true → nat_abs z ≤ largest → ⊥
not-small (pos n) h k = absurd (false≢true h)
not-small (negsuc n) h k = omega (arith, ltb-true 2147483646 n h)

-- one more
pub more-small : {cs : List ℤ} {i₀ i : ℕ} → AtMost largest cs i₀ i → nat_abs (get_or cs i (pos 0)) ≤ largest → AtMost largest cs i₀ (i + 1)
more-small {cs} {i₀} {i} h k = record { each = λ j l m. by j l (eq-or-lt_of_le (omega arith)) }
  where
    by : (j : ℕ) → i₀ ≤ j → (j ≡ i) ⊎ (j < i) → nat_abs (get_or cs j (pos 0)) ≤ largest
    by j l (inl e) = subst (λ (n : ℕ). nat_abs (get_or cs n (pos 0)) ≤ largest) (sym e) k
    by j l (inr m) = h.each j l m
