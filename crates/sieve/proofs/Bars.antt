-- That a row bars a test, and that the tries so far are barred by some row each.
use mathlib.Core.Path.{◌≡◌, refl, sym, ap, ap₂, subst, ◌∙◌}
use mathlib.Core.Bool.{Bool, true, false, not, ◌&&◌, true≢false}
use mathlib.Core.List.{[], ◌∷◌}
use Prim.Native.Nat.{ℕ, zero, suc, ◌+◌, ◌/◌, ◌%◌, ◌<◌, ◌≤◌}
use native.Mathlib.Omega.{arith}
use borrow.Author.Count.{below_more}
use lib.Dec.{eqb, leb}
use lib.IntN.{ℤ, pos, negsuc, neg_ℤ, ◌+ℤ◌, ◌-ℤ◌, ◌*ℤ◌}
use lib.ListN.{get_or}
use lib.Signed.{le_z, non_neg}
use mir.Syntax.{w32, w64}
use mir.Val.{SFits, to_z, of_z}
use Rattle.whole.specs.Differences.{order-by-difference}
use Rattle.whole.specs.Solver.{solve, #, neg, ◌:-◌}
use Rattle.rules.specs.Signs.{Sign, negative, positive, SignSet, sign_of, only, has, Kind, kind, open_signs}
use Rattle.deduction_laws.specs.FractionSets.{Side, L, U}
use Rattle.interval.specs.Coefficients.{back}
use Rattle.masks.specs.Masks.{cuts}
use Rattle.masks.specs.Weights.{against}
use Rattle.two_atoms.specs.Tries.{factor_at}
use Rattle.two_atoms.proofs.Sums.{product-back, plus-back}
use Rattle.two_atoms.proofs.Factors.{factor-back}
use Rattle.sieve.specs.Rows.{Rows}
use Rattle.sieve.specs.Tries.{bars, side_of, can_be, RowBars, Caught, Stopped, StoppedAll, StoppedBoth, StoppedHalves, half_of, PassedTest}
use Rattle.sieve.specs.Tries.{PassedPair, first_of, from_of}

-- ---- one row

is-above : (z : ℤ) → non_neg (neg_ℤ z) ≡ false → sign_of z ≡ positive
unfolding sign_of
is-above (pos zero) e = absurd (true≢false e)
is-above (pos (suc n)) e = refl
is-above (negsuc n) e = absurd (true≢false e)

is_below : (z : ℤ) → non_neg z ≡ false → sign_of z ≡ negative
unfolding sign_of
is_below (pos n) e = absurd (true≢false e)
is_below (negsuc n) e = refl

turned : (x y : ℤ) → neg_ℤ (x -ℤ y) ≡ y -ℤ x
turned x y = solve (x ∷ y ∷ []) (neg (# 0 :- # 1)) (# 1 :- # 0) tt

above : (x y : ℤ) → le_z x y ≡ false → sign_of (x -ℤ y) ≡ positive
above x y e = is-above (x -ℤ y) (ap non_neg (turned x y) ∙ sym (order-by-difference x y) ∙ e)

below : (x y : ℤ) → le_z y x ≡ false → sign_of (x -ℤ y) ≡ negative
below x y e = is_below (x -ℤ y) (sym (order-by-difference y x) ∙ e)

module _ {a u b w c x y : ℤ} (fa : SFits w32 a) (fu : SFits w32 u) (fb : SFits w32 b) (fw : SFits w32 w) (fc : SFits w32 c)
    (e : x ≡ to_z w32 (of_z w32 a) +ℤ to_z w32 (of_z w32 u) *ℤ to_z w32 (of_z w32 b)) (h : y ≡ to_z w32 (of_z w32 w) *ℤ to_z w32 (of_z w32 c)) where
  sum_is : to_z w64 (of_z w64 x) ≡ a +ℤ u *ℤ b
  sum_is = plus-back fa fu fb e

  product_is : to_z w64 (of_z w64 y) ≡ w *ℤ c
  product_is = product-back fw fc h

  pub sum-above : le_z (to_z w64 (of_z w64 x)) (to_z w64 (of_z w64 y)) ≡ false → sign_of (a +ℤ u *ℤ b -ℤ w *ℤ c) ≡ positive
  sum-above k = above (a +ℤ u *ℤ b) (w *ℤ c) (sym (ap₂ le_z sum_is product_is) ∙ k)

  pub sum_below : le_z (to_z w64 (of_z w64 y)) (to_z w64 (of_z w64 x)) ≡ false → sign_of (a +ℤ u *ℤ b -ℤ w *ℤ c) ≡ negative
  sum_below k = below (a +ℤ u *ℤ b) (w *ℤ c) (sym (ap₂ le_z product_is sum_is) ∙ k)

pub can-be-positive : (s : SignSet) {lowers : Bool} → lowers ≡ true → eqb (s % 2) 1 ≡ can_be lowers s
unfolding can_be has only
can-be-positive s e = let same : s / 1 % 2 ≡ s % 2 = omega arith in rw e (ap (λ (n : ℕ). eqb n 1) (sym same))

pub can-be-negative : (s : SignSet) {lowers : Bool} → lowers ≡ false → eqb (s / 4 % 2) 1 ≡ can_be lowers s
unfolding can_be has only
can-be-negative s e = rw e refl

bars-mirrored : (lowers : Bool) (s : SignSet) → bars negative (against (side_of lowers)) s ≡ can_be (not lowers) s
unfolding bars can_be open_signs
bars-mirrored true s = refl
bars-mirrored false s = refl

module _ {a b c : ℤ} {s : SignSet} {u w : ℤ} {lowers : Bool} {answer : Bool} where
  pub bars-above : sign_of (a +ℤ u *ℤ b -ℤ w *ℤ c) ≡ positive → answer ≡ can_be lowers s → RowBars a b c s u w lowers answer
  unfolding bars can_be
  bars-above e h = record { barred = λ g. ap (λ (x : Sign). bars x (against (side_of lowers)) s) e ∙ sym h ∙ g }

  pub bars-below : sign_of (a +ℤ u *ℤ b -ℤ w *ℤ c) ≡ negative → answer ≡ can_be (not lowers) s → RowBars a b c s u w lowers answer
  bars-below e h = record { barred = λ g. ap (λ (x : Sign). bars x (against (side_of lowers)) s) e ∙ bars-mirrored lowers s ∙ sym h ∙ g }

pub bars-none : {a b c : ℤ} {s : SignSet} {u w : ℤ} {lowers : Bool} → RowBars a b c s u w lowers false
bars-none = record { barred = λ e. absurd (true≢false (sym e)) }

-- ---- one try

pub try-ended : {r : Rows} {n : ℕ} {u w : ℤ} {lowers : Bool} {answer : Bool} (i : ℕ) → i < n → SFits w32 u → SFits w32 w
    → RowBars (get_or r.first i (pos 0)) (get_or r.second i (pos 0)) (get_or r.third i (pos 0)) (get_or r.signs i 0)
    (to_z w32 (of_z w32 u)) (to_z w32 (of_z w32 w)) lowers answer
    → answer ≡ true → Stopped r n u w lowers i
try-ended {r} {n} i l fu fw h e = record { caught = λ m. record { at = i; low = l; barred = rw (back fu, back fw) at (h.barred e) } }

pub passes : {r : Rows} {n : ℕ} {u w : ℤ} {lowers : Bool} → Stopped r n u w lowers n
passes = record { caught = λ l. absurd (omega (arith, l)) }

pub un_not : {b : Bool} → not b ≡ true → b ≡ false
un_not {b = true} e = sym e
un_not {b = false} e = refl

pub un-false : {b : Bool} → not b ≡ false → b ≡ true
un-false {b = true} e = refl
un-false {b = false} e = absurd (true≢false e)

-- ---- all w, all u

-- the w at the indices from..j
pub record SecondWalked (r : Rows) (n : ℕ) (u : ℤ) (lowers : Bool) (from j : ℕ) : Type 0 where
  pub each : (i : ℕ) → from ≤ i → i < j → Caught r n (side_of lowers) u (factor_at i)

pub second-begun : {r : Rows} {n : ℕ} {u : ℤ} {lowers : Bool} {from : ℕ} → SecondWalked r n u lowers from from
second-begun = record { each = λ i l m. absurd (omega (arith, l, m)) }

pub second-on : {r : Rows} {n : ℕ} {u w : ℤ} {lowers : Bool} {from j k : ℕ} → SecondWalked r n u lowers from j → w ≡ factor_at j
    → Stopped r n u (to_z w32 (of_z w32 w)) lowers k → k < n → SecondWalked r n u lowers from (j + 1)
second-on {r} {n} {u} {lowers = lowers} {from} {j} h e p l = record {
  each = λ i a m. below_more (λ (i : ℕ). from ≤ i → Caught r n (side_of lowers) u (factor_at i)) j (λ i b a. h.each i a b)
      (λ a. subst (Caught r n (side_of lowers) u) (factor-back j e) (p.caught l)) i m a;
}

pub second_ended : {r : Rows} {n : ℕ} {u : ℤ} {lowers : Bool} {from to j k : ℕ} → SFits w32 u
    → SecondWalked r n (to_z w32 (of_z w32 u)) lowers from j → to ≤ j → StoppedAll r n u from to lowers k
second_ended {r} {n} {lowers = lowers} fu h l = record {
  caught = λ m i a b. subst (λ (z : ℤ). Caught r n (side_of lowers) z (factor_at i)) (back fu) (h.each i a (omega (arith, b, l)));
}

pub second-passes : {r : Rows} {n : ℕ} {u : ℤ} {lowers : Bool} {from to : ℕ} → StoppedAll r n u from to lowers n
second-passes = record { caught = λ l. absurd (omega (arith, l)) }

-- the u at the indices begin..i
pub record BothWalked (r : Rows) (n : ℕ) (lowers : Bool) (from to begin i : ℕ) : Type 0 where
  pub each : (k : ℕ) → begin ≤ k → k < i → (j : ℕ) → from ≤ j → j < to → Caught r n (side_of lowers) (factor_at k) (factor_at j)

pub both-begun : {r : Rows} {n : ℕ} {lowers : Bool} {from to begin : ℕ} → BothWalked r n lowers from to begin begin
both-begun = record { each = λ i l m j a b. absurd (omega (arith, l, m)) }

pub both-on : {r : Rows} {n : ℕ} {u : ℤ} {lowers : Bool} {from to begin i k : ℕ} → BothWalked r n lowers from to begin i → u ≡ factor_at i
    → StoppedAll r n (to_z w32 (of_z w32 u)) from to lowers k → k < n → BothWalked r n lowers from to begin (i + 1)
both-on {r} {n} {lowers = lowers} {from} {to} {begin} {i} h e p f = record {
  each = λ k l m.
      below_more (λ (k : ℕ). begin ≤ k → (j : ℕ) → from ≤ j → j < to → Caught r n (side_of lowers) (factor_at k) (factor_at j)) i (λ k b a. h.each k a b)
      (λ a j c d. subst (λ (z : ℤ). Caught r n (side_of lowers) z (factor_at j)) (factor-back i e) (p.caught f j c d)) k m l;
}

pub both-ended : {r : Rows} {n : ℕ} {lowers : Bool} {from to begin last i k : ℕ}
    → BothWalked r n lowers from to begin i → last ≤ i → StoppedBoth r n begin last from to lowers k
both-ended h l = record { caught = λ f k a b j c d. h.each k a (omega (arith, b, l)) j c d }

pub both-pass : {r : Rows} {n : ℕ} {lowers : Bool} {begin last from to : ℕ} → StoppedBoth r n begin last from to lowers n
both-pass = record { caught = λ l. absurd (omega (arith, l)) }

pub halves-made : {r : Rows} {n first from : ℕ} {allowed lowers : Bool} {k : ℕ} → StoppedBoth r n first (first + 4) from (from + 4) lowers k
    → StoppedHalves r n first from allowed lowers k
halves-made h = record { caught = λ e. h }

pub halves-not-made : {r : Rows} {n first from : ℕ} {allowed lowers : Bool} {k : ℕ} → allowed ≡ false → StoppedHalves r n first from allowed lowers k
halves-not-made f = record { caught = λ e. absurd (true≢false (sym e ∙ f)) }

-- ---- the signs that the sets allow

half-below : (lowers : Bool) (k : Kind) → half_of L lowers k ≡ half_of (side_of lowers) false k
unfolding half_of
half-below true k = refl
half-below false k = refl

half-above : (lowers : Bool) (k : Kind) → half_of L (not lowers) k ≡ half_of (side_of lowers) true k
unfolding half_of
half-above true k = refl
half-above false k = refl

pub test-cannot : {r : Rows} {n : ℕ} {set1 set2 : SignSet} {cuts lowers answer : Bool} → cuts ≡ false → PassedTest r n set1 set2 cuts lowers answer
test-cannot f = record { caught = λ e g. absurd (true≢false (sym g ∙ f)) }

pub test-passes : {r : Rows} {n : ℕ} {set1 set2 : SignSet} {cuts lowers : Bool} → PassedTest r n set1 set2 cuts lowers true
test-passes = record { caught = λ e. absurd (true≢false e) }

module _ {r : Rows} {n : ℕ} {set1 set2 : SignSet} {cuts lowers answer : Bool} {b1 a1 b2 a2 wa wb wc wd : Bool} {ka kb kc kd : ℕ}
    (hb1 : b1 ≡ half_of L lowers (kind set1)) (ha1 : a1 ≡ half_of L (not lowers) (kind set1))
    (hb2 : b2 ≡ half_of L lowers (kind set2)) (ha2 : a2 ≡ half_of L (not lowers) (kind set2)) where
  pub test-passed : wa ≡ b1 && b2 → StoppedHalves r n 0 4 wa lowers ka → ka < n → wb ≡ b1 && a2 → StoppedHalves r n 0 0 wb lowers kb → kb < n
      → wc ≡ a1 && b2 → StoppedHalves r n 4 4 wc lowers kc → kc < n → wd ≡ a1 && a2 → StoppedHalves r n 4 0 wd lowers kd → (answer ≡ false → kd < n)
      → PassedTest r n set1 set2 cuts lowers answer
  test-passed ea pa la eb pb lb ec pc lc ed pd ld = record { caught = by }
    where
      first : b1 ≡ half_of (side_of lowers) false (kind set1)
      first = hb1 ∙ half-below lowers (kind set1)

      second : a1 ≡ half_of (side_of lowers) true (kind set1)
      second = ha1 ∙ half-above lowers (kind set1)

      third : b2 ≡ half_of (side_of lowers) false (kind set2)
      third = hb2 ∙ half-below lowers (kind set2)

      fourth : a2 ≡ half_of (side_of lowers) true (kind set2)
      fourth = ha2 ∙ half-above lowers (kind set2)

      by : answer ≡ false → cuts ≡ true → (above1 above2 : Bool)
          → half_of (side_of lowers) above1 (kind set1) && half_of (side_of lowers) above2 (kind set2) ≡ true
          → (i : ℕ) → first_of above1 ≤ i → i < first_of above1 + 4 → (j : ℕ) → from_of above2 ≤ j → j < from_of above2 + 4
          → Caught r n (side_of lowers) (factor_at i) (factor_at j)
      by e c false false g = (pa.caught (ea ∙ ap₂ ◌&&◌ first third ∙ g)).caught la
      by e c false true g = (pb.caught (eb ∙ ap₂ ◌&&◌ first fourth ∙ g)).caught lb
      by e c true false g = (pc.caught (ec ∙ ap₂ ◌&&◌ second third ∙ g)).caught lc
      by e c true true g = (pd.caught (ed ∙ ap₂ ◌&&◌ second fourth ∙ g)).caught (ld e)

and_parts : {X : Type 0} (x y : Bool) → x && y ≡ true → (x ≡ true → y ≡ true → X) → X
and_parts true y e f = f refl e
and_parts false y e f = absurd (true≢false (sym e))

pub pair-passed : {r : Rows} {n : ℕ} {set1 set2 set : SignSet} {x answer : Bool} → PassedTest r n set1 set2 (leb 2 set) false x → x ≡ false
    → PassedTest r n set1 set2 (not (eqb (set % 4) 0)) true answer → PassedPair r n set1 set2 set answer
pair-passed {r} {n} {set1} {set2} {set} {answer = answer} p f q = record { caught = by }
  where
    by : answer ≡ false → (above1 above2 : Bool) (side : Side)
        → cuts side set && (half_of side above1 (kind set1) && half_of side above2 (kind set2)) ≡ true
        → (i : ℕ) → first_of above1 ≤ i → i < first_of above1 + 4 → (j : ℕ) → from_of above2 ≤ j → j < from_of above2 + 4
        → Caught r n side (factor_at i) (factor_at j)
    by e above1 above2 L g = and_parts _ _ g (λ a b. p.caught f a above1 above2 b)
    by e above1 above2 U g = and_parts _ _ g (λ a b. q.caught e a above1 above2 b)

pub pair-passes : {r : Rows} {n : ℕ} {set1 set2 set : SignSet} → PassedPair r n set1 set2 set true
pair-passes = record { caught = λ e. absurd (true≢false e) }
