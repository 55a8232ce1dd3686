-- The ring and order laws of ℤ that the kit does not have: associativity of the product, distributivity, order as the sign of a difference.
-- Each whole number is a difference of two natural numbers, and the laws of these are linear arithmetic over the products.
use Rattle.std.specs.Prelude.{◌≡◌, refl, Bool, true, false, not, cond, ℕ, zero, suc, ◌+◌, ◌*◌, ◌-◌, T, leb, ltb, ℤ, pos, negsuc, neg_ℤ, ◌+ℤ◌, ◌*ℤ◌, ◌-ℤ◌}
use Rattle.std.proofs.Common.{sym, ap, ap₂, ◌∙◌, subst, arith, ltb→lt, nltb→le, ltb-true, ltb-false, le-leb}
use Rattle.std.proofs.Math.Dec.{leb-suc-suc}
use Rattle.std.proofs.Math.IntN.{sub_ℕ, one, *ℤ-one, *ℤ_comm}
use Rattle.std.specs.Int.Signed.{le_z, lt_z, non_neg}
use Rattle.std.proofs.lemmas.Bool.{lt-leb}

-- ---- A whole number as a difference.

-- The part of z above 0 and the part below 0: z is the one less the other.
abbrev pub above : ℤ → ℕ
above (pos n) = n
above (negsuc n) = 0

abbrev pub below : ℤ → ℕ
below (pos n) = 0
below (negsuc n) = suc n

-- z is a less b.
pub record Difference (z : ℤ) (a b : ℕ) : Type 0 where
  pub balance : above z + b ≡ below z + a

-- Each number is the difference of its parts.
pub own : (z : ℤ) → Difference z (above z) (below z)
own (pos n) = record { balance = omega arith }
own (negsuc n) = record { balance = omega arith }

-- A negation exchanges the two.
pub negated : {z : ℤ} {a b : ℕ} → Difference z a b → Difference (neg_ℤ z) b a
negated {z = pos zero} r = record { balance = omega (arith, r.balance) }
negated {z = pos (suc n)} r = record { balance = omega (arith, r.balance) }
negated {z = negsuc n} r = record { balance = omega (arith, r.balance) }

by-test : (c : Bool) (x y : ℤ) (a b : ℕ) → (T c → Difference x a b) → (T (not c) → Difference y a b) → Difference (cond c x y) a b
by-test true x y a b f g = f tt
by-test false x y a b f g = g tt

subtracted : (u v a b : ℕ) → u + b ≡ v + a → Difference (sub_ℕ u v) a b
subtracted u v a b h = by-test (ltb u v) (negsuc (v - suc u)) (pos (u - v)) a b
    (λ t. record { balance = omega (arith, ltb→lt u v t) }) (λ t. record { balance = omega (arith, nltb→le u v t) })

infixl 6 ◌plus◌ ◌minus◌
infixl 7 ◌times◌
-- Differences are added part by part.
pub ◌plus◌ : {x y : ℤ} {a b c d : ℕ} → Difference x a b → Difference y c d → Difference (x +ℤ y) (a + c) (b + d)
◌plus◌ {x = pos m} {y = pos n} r s = record { balance = omega (arith, r.balance, s.balance) }
◌plus◌ {x = pos m} {y = negsuc n} {a} {b} {c} {d} r s = subtracted m (suc n) (a + c) (b + d) (omega (arith, r.balance, s.balance))
◌plus◌ {x = negsuc m} {y = pos n} {a} {b} {c} {d} r s = subtracted n (suc m) (a + c) (b + d) (omega (arith, r.balance, s.balance))
◌plus◌ {x = negsuc m} {y = negsuc n} r s = record { balance = omega (arith, r.balance, s.balance) }

-- And taken away.
pub ◌minus◌ : {x y : ℤ} {a b c d : ℕ} → Difference x a b → Difference y c d → Difference (x -ℤ y) (a + d) (b + c)
r minus s = r plus negated s

multiplied : (m n b d a c : ℕ) → m + b ≡ a → n + d ≡ c → m * n + (a * d + b * c) ≡ a * c + b * d
multiplied m n b d a c r s = subst (λ (x : ℕ). m * n + (x * d + b * c) ≡ x * c + b * d) r
    (subst (λ (y : ℕ). m * n + ((m + b) * d + b * y) ≡ (m + b) * y + b * d) s (omega arith))

negative : (k a b : ℕ) → b ≡ k + a → Difference (neg_ℤ (pos k)) a b
negative zero a b h = record { balance = omega arith }
negative (suc k) a b h = record { balance = omega arith }

-- A product of differences is multiplied out.
pub ◌times◌ : {x y : ℤ} {a b c d : ℕ} → Difference x a b → Difference y c d → Difference (x *ℤ y) (a * c + b * d) (a * d + b * c)
◌times◌ {x = pos m} {y = pos n} {a} {b} {c} {d} r s =
    record { balance = omega (arith, multiplied m n b d a c (omega (arith, r.balance)) (omega (arith, s.balance))) }
◌times◌ {x = pos m} {y = negsuc n} {a} {b} {c} {d} r s =
    negative (m * suc n) _ _ (omega (arith, multiplied m (suc n) b c a d (omega (arith, r.balance)) (omega (arith, s.balance))))
◌times◌ {x = negsuc m} {y = pos n} {a} {b} {c} {d} r s =
    negative (suc m * n) _ _ (omega (arith, multiplied (suc m) n a d b c (omega (arith, r.balance)) (omega (arith, s.balance))))
◌times◌ {x = negsuc m} {y = negsuc n} {a} {b} {c} {d} r s =
    record { balance = omega (arith, multiplied (suc m) (suc n) a c b d (omega (arith, r.balance)) (omega (arith, s.balance))) }

-- Numbers with equal differences are equal.
pub equal : {x y : ℤ} {a b c d : ℕ} → Difference x a b → Difference y c d → a + d ≡ c + b → x ≡ y
equal {x = pos m} {y = pos n} r s h = ap pos (omega (arith, r.balance, s.balance))
equal {x = pos m} {y = negsuc n} r s h = absurd (omega (arith, r.balance, s.balance))
equal {x = negsuc m} {y = pos n} r s h = absurd (omega (arith, r.balance, s.balance))
equal {x = negsuc m} {y = negsuc n} r s h = ap negsuc (omega (arith, r.balance, s.balance))

-- ---- The ring laws.

-- Times 1.
pub one-*ℤ : (x : ℤ) → one *ℤ x ≡ x
one-*ℤ x = *ℤ_comm one x ∙ *ℤ-one x

-- A product of three is bracketed either way.
pub *ℤ-assoc : (x y z : ℤ) → x *ℤ y *ℤ z ≡ x *ℤ (y *ℤ z)
*ℤ-assoc x y z = equal (own x times own y times own z) (own x times (own y times own z)) (omega arith)

-- A product goes over a sum on its right.
pub *ℤ-+ℤ : (x y z : ℤ) → x *ℤ (y +ℤ z) ≡ x *ℤ y +ℤ x *ℤ z
*ℤ-+ℤ x y z = equal (own x times (own y plus own z)) (own x times own y plus own x times own z) (omega arith)

-- And over one on its left.
pub +ℤ-*ℤ : (x y z : ℤ) → (x +ℤ y) *ℤ z ≡ x *ℤ z +ℤ y *ℤ z
+ℤ-*ℤ x y z = equal ((own x plus own y) times own z) (own x times own z plus own y times own z) (omega arith)

-- The first two of three summands may change places.
pub +ℤ-left-comm : (x y z : ℤ) → x +ℤ (y +ℤ z) ≡ y +ℤ (x +ℤ z)
+ℤ-left-comm x y z = equal (own x plus (own y plus own z)) (own y plus (own x plus own z)) (omega arith)

-- And the first two of three factors.
pub *ℤ-left-comm : (x y z : ℤ) → x *ℤ (y *ℤ z) ≡ y *ℤ (x *ℤ z)
*ℤ-left-comm x y z = equal (own x times (own y times own z)) (own y times (own x times own z)) (omega arith)

-- ---- The order.

in-order : {z : ℤ} {a b : ℕ} → Difference z a b → leb b a ≡ non_neg z
in-order {z = pos n} {a} {b} r = le-leb b a (omega (arith, r.balance))
in-order {z = negsuc n} {a} {b} r = lt-leb b a (omega (arith, r.balance))

turned : (m n : ℕ) → ltb m n ≡ not (leb n m)
turned m n = by (ltb m n) refl
  where
    by : (b : Bool) → ltb m n ≡ b → b ≡ not (leb n m)
    by true e = sym (ap not (lt-leb n m (ltb-true m n e)))
    by false e = sym (ap not (le-leb n m (ltb-false m n e)))

-- x is at most y exactly if y less x is not negative.
pub order-by-difference : (x y : ℤ) → le_z x y ≡ non_neg (y -ℤ x)
order-by-difference x y = by_parts x y ∙ in-order (own y minus own x)
  where
    by_parts : (x y : ℤ) → le_z x y ≡ leb (below y + above x) (above y + below x)
    by_parts (pos m) (pos n) = ap₂ leb {x = m} {y = 0 + m} {u = n} {v = n + 0} (omega arith) (omega arith)
    by_parts (pos m) (negsuc n) = sym (lt-leb (suc n + m) (0 + 0) (omega arith))
    by_parts (negsuc m) (pos n) = sym (le-leb (0 + 0) (n + suc m) (omega arith))
    by_parts (negsuc m) (negsuc n) = sym (leb-suc-suc n m) ∙ ap₂ leb {x = suc n} {y = suc n + 0} {u = suc m} {v = 0 + suc m} (omega arith) (omega arith)

-- x is below y exactly if y is not at most x.
pub below-by-order : (x y : ℤ) → lt_z x y ≡ not (le_z y x)
below-by-order (pos m) (pos n) = turned m n
below-by-order (pos m) (negsuc n) = refl
below-by-order (negsuc m) (pos n) = refl
below-by-order (negsuc m) (negsuc n) = turned n m
