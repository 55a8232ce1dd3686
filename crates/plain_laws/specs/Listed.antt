-- The listed fractions: they rise, 0 is one of them, and each -a/b is equal to one of them, whatever its terms.
-- So values that lie alike to the listed fractions give each a + tb the same sign.
use Rattle.std.specs.Prelude.{◌≡◌, Bool, List, [], ◌∷◌, ℕ, zero, suc, ℤ, pos, negsuc, neg_ℤ, ◌+ℤ◌, ◌*ℤ◌}
use Rattle.std.proofs.Math.Path.{refl}
use Rattle.std.proofs.Common.{sym, ap, ◌∙◌, subst}
use Rattle.std.proofs.Math.Bool.{true, false}
use mathlib.Core.List.Memᴰ.{head as here}
use mathlib.Core.List.Memᴰ.{tail as later}
use mathlib.Core.List.{Memᴰ as Member}
use Rattle.whole.specs.Solver.{#, con, ◌:+◌, ◌:*◌, solve}
use Rattle.rules.specs.Signs.{nought, sign_of, mirror_of_sign, open_signs}
use Rattle.rules.specs.Deduce.{Fraction, denominator, at_most, Row}
use Rattle.rules.specs.Plain.{of_order, placed, with_root, with_roots, zero_fraction, listed}
use Rattle.sign_laws.specs.Whole.{◌∈◌, ∈-negation, by_equal, by_sign, sign-times, sign-negation, ∈-intersect}
use Rattle.deduction_laws.specs.Fractions.{combined, gap, gap-turned, no_gap, one-back, at-most, not-at-most, denominator-positive}
use Rattle.deduction_laws.specs.Intervals.{rising, falling}
use Rattle.plain_laws.specs.StandIn.{Twin, level-alike, Rises, last, next}

-- ---- A value at its place.

pub data Rising : List Fraction → Type 0 where
  from : {t : Fraction} {us : List Fraction} → Rises t us → Rising (t ∷ us)

-- t is one of the values or equal to one
pub record There (t : Fraction) (M : List Fraction) : Type 0 where
  pub value : Fraction
  pub member : Member value M
  pub equal : gap t value ∈ 2

no-gap-between : (t u : Fraction) → at_most t u ≡ true → at_most u t ≡ true → gap t u ∈ 2
unfolding open_signs
no-gap-between t u e f = ∈-intersect ((at-most t u).0 e) (by_equal (gap-turned u t) (∈-negation ((at-most u t).0 f)))

-- the three ways, by the two tests
module _ (t u : Fraction) (us : List Fraction) where
  placed-rises : Rises u us → ((gap u t ∈ 1) → Rises u (placed t us)) → (x y : Bool) → at_most t u ≡ x → at_most u t ≡ y
      → Rising (of_order x y (u ∷ us) (t ∷ u ∷ us) (u ∷ placed t us))
  unfolding of_order
  placed-rises k more true true e f = from k
  placed-rises k more true false e f = from (next ((not-at-most t u).0 f) k)
  placed-rises k more false y e f = from (more ((not-at-most u t).0 e))

  placed-after : (s : Fraction) → gap s t ∈ 1 → gap s u ∈ 1 → Rises u us → ((gap u t ∈ 1) → Rises u (placed t us)) → (x y : Bool) → at_most t u ≡ x → at_most u t ≡ y
      → Rises s (of_order x y (u ∷ us) (t ∷ u ∷ us) (u ∷ placed t us))
  unfolding of_order
  placed-after s h g k more true true e f = next g k
  placed-after s h g k more true false e f = next h (next ((not-at-most t u).0 f) k)
  placed-after s h g k more false y e f = next g (more ((not-at-most u t).0 e))

  placed-keeps : (r : Fraction) → (Member r us → Member r (placed t us)) → Member r (u ∷ us) → (x y : Bool)
      → Member r (of_order x y (u ∷ us) (t ∷ u ∷ us) (u ∷ placed t us))
  unfolding of_order
  placed-keeps r more m true true = m
  placed-keeps r more m true false = later m
  placed-keeps r more (here e) false y = here e
  placed-keeps r more (later m) false y = later (more m)

  placed-there : There t (placed t us) → (x y : Bool) → at_most t u ≡ x → at_most u t ≡ y → There t (of_order x y (u ∷ us) (t ∷ u ∷ us) (u ∷ placed t us))
  unfolding of_order open_signs
  placed-there more true true e f = record { value = u; member = here refl; equal = no-gap-between t u e f }
  placed-there more true false e f = record { value = t; member = here refl; equal = by_equal (no_gap t) (by_sign nought refl refl) }
  placed-there more false y e f = record { value = more.value; member = later more.member; equal = more.equal }

rises-on : (s t : Fraction) (us : List Fraction) → gap s t ∈ 1 → Rises s us → Rises s (placed t us)
unfolding placed
rises-on s t [] h last = next h last
rises-on s t (u ∷ us) h (next g k) = placed-after t u us s h g k (λ l. rises-on u t us l k) (at_most t u) (at_most u t) refl refl

still-rising : (t : Fraction) {M : List Fraction} → Rising M → Rising (placed t M)
unfolding placed
still-rising t (from {t = u} {us = us} k) = placed-rises t u us k (λ l. rises-on u t us l k) (at_most t u) (at_most u t) refl refl

kept : (t r : Fraction) (M : List Fraction) → Member r M → Member r (placed t M)
unfolding placed
kept t r [] m = elim m [ ]
kept t r (u ∷ us) m = placed-keeps t u us r (λ n. kept t r us n) m (at_most t u) (at_most u t)

put : (t : Fraction) (M : List Fraction) → There t (placed t M)
unfolding placed open_signs
put t [] = record { value = t; member = here refl; equal = by_equal (no_gap t) (by_sign nought refl refl) }
put t (u ∷ us) = placed-there t u us (put t us) (at_most t u) (at_most u t) refl refl

-- ---- What all of that is for.

-- To values that lie alike, a + tb has the same sign.
pub record Covers (M : List Fraction) (a b : ℤ) : Type 0 where
  pub same : (t u : Fraction) → Twin M t u → sign_of (combined t a b) ≡ sign_of (combined u a b)

part : {M N : List Fraction} {t u : Fraction} → ((r : Fraction) → Member r M → Member r N) → Twin N t u → Twin M t u
part f h = record { alike = λ r m. h.alike r (f r m) }

covers_more : {M N : List Fraction} {a b : ℤ} → ((r : Fraction) → Member r M → Member r N) → Covers M a b → Covers N a b
covers_more f c = record { same = λ t u h. c.same t u (part f h) }

pub turned-sign : (r t u : Fraction) → sign_of (gap r t) ≡ sign_of (gap r u) → sign_of (gap t r) ≡ sign_of (gap u r)
turned-sign r t u e =
    ap sign_of (gap-turned r t) ∙ sign-negation (gap r t) ∙ ap mirror_of_sign e ∙ sym (sign-negation (gap r u)) ∙ ap sign_of (sym (gap-turned r u))

-- to a fraction that is equal to a listed one they lie alike too
alike-there : {M : List Fraction} (r : Fraction) → There r M → (t u : Fraction) → Twin M t u → sign_of (gap r t) ≡ sign_of (gap r u)
alike-there r h t u w = let v = h.value in
    turned-sign t r v (level-alike t r v h.equal) ∙ w.alike v h.member ∙ turned-sign u v r (level-alike u v r (one-back r v h.equal))

flat : (a c d : ℤ) → a *ℤ d +ℤ c *ℤ pos 0 ≡ a *ℤ d
flat a c d = solve (a ∷ c ∷ d ∷ []) (# 0 :* # 2 :+ # 1 :* con (pos 0)) (# 0 :* # 2) tt

pub flat-sign : (a : ℤ) (t : Fraction) → sign_of (combined t a (pos 0)) ≡ sign_of a
flat-sign a t = ap sign_of (flat a t.numerator (denominator t)) ∙ sign-times a (denominator-positive t)

covers-root : (a b : ℤ) (M : List Fraction) → Covers (with_root a b M) a b
unfolding with_root
covers-root a (pos zero) M = record { same = λ t u h. flat-sign a t ∙ sym (flat-sign a u) }
covers-root a (pos (suc b)) M = let r : Fraction = record { numerator = neg_ℤ a; less = b } in record {
  same = λ t u h. ap sign_of (rising a b t) ∙ alike-there r (put r M) t u h ∙ ap sign_of (sym (rising a b u));
}
covers-root a (negsuc b) M = let r : Fraction = record { numerator = a; less = b } in record {
  same = λ t u h. ap sign_of (falling a b t) ∙ turned-sign r t u (alike-there r (put r M) t u h) ∙ ap sign_of (sym (falling a b u));
}

root-keeps : (a b : ℤ) (M : List Fraction) (r : Fraction) → Member r M → Member r (with_root a b M)
unfolding with_root
root-keeps a (pos zero) M r m = m
root-keeps a (pos (suc b)) M r m = kept (record { numerator = neg_ℤ a; less = b }) r M m
root-keeps a (negsuc b) M r m = kept (record { numerator = a; less = b }) r M m

roots-keep : (xs : List Row) (M : List Fraction) (r : Fraction) → Member r M → Member r (with_roots M xs)
unfolding with_roots
roots-keep [] M r m = m
roots-keep (x ∷ xs) M r m = roots-keep xs (with_root x.a x.b M) r (root-keeps x.a x.b M r m)

covered : (xs : List Row) (M : List Fraction) (x : Row) → Member x xs → Covers (with_roots M xs) x.a x.b
unfolding with_roots
covered [] M x x3 = elim x3 [ ]
covered (y ∷ ys) M x (here e) = subst (λ (x : Row). Covers (with_roots (with_root y.a y.b M) ys) x.a x.b) (sym e)
    (covers_more (roots-keep ys (with_root y.a y.b M)) (covers-root y.a y.b M))
covered (y ∷ ys) M x (later m) = covered ys (with_root y.a y.b M) x m

root-rising : (a b : ℤ) {M : List Fraction} → Rising M → Rising (with_root a b M)
unfolding with_root
root-rising a (pos zero) h = h
root-rising a (pos (suc b)) h = still-rising (record { numerator = neg_ℤ a; less = b }) h
root-rising a (negsuc b) h = still-rising (record { numerator = a; less = b }) h

roots-rising : (xs : List Row) {M : List Fraction} → Rising M → Rising (with_roots M xs)
unfolding with_roots
roots-rising [] h = h
roots-rising (x ∷ xs) h = roots-rising xs (root-rising x.a x.b h)

-- ---- The listed fractions of the rows.

pub listed-rising : (xs : List Row) → Rising (listed xs)
unfolding listed
listed-rising xs = roots-rising xs (from last)

pub zero-listed : (xs : List Row) → Member zero_fraction (listed xs)
unfolding listed
zero-listed xs = roots-keep xs (zero_fraction ∷ []) zero_fraction (here refl)

pub listed-covers : (xs : List Row) (x : Row) → Member x xs → Covers (listed xs) x.a x.b
unfolding listed
listed-covers xs x m = covered xs (zero_fraction ∷ []) x m
