-- L and U are document 01's sets, and a finding is strict as 02, #104, says it: each test of the book on an interval holds exactly if there is such a t.
-- First the tests on any interval; then the two tests of a finding, in the documents' words, for both sides and each set of q.
use Rattle.std.specs.Prelude.{◌≡◌, Bool, ◌&&◌, ◌||◌, ◌↔◌, ℕ, zero, suc, ℤ, pos, negsuc, neg_ℤ, ◌+ℤ◌, ◌*ℤ◌}
use Rattle.std.proofs.Math.Path.{refl, ap, subst}
use Rattle.std.proofs.Common.{sym, ap₂, ◌∙◌, true≢false}
use Rattle.std.proofs.Math.Bool.{true, false, not, and-eq-true_iff}
use Rattle.std.proofs.lemmas.Bool.{false≢true}
use mathlib.Core.List.{List, [], ◌∷◌}
use Rattle.whole.specs.Solver.{#, con, ◌:+◌, ◌:*◌, solve}
use Rattle.rules.specs.Signs.{Sign, negative, nought, positive, sign_of, Kind, ∅, >0, =0, ≥0, <0, ≠0, ≤0, any, named, open_signs}
use Rattle.rules.specs.Deduce.{Fraction, denominator, End, free, at, Interval, Row, is_strict, is_zero, end_at_most, end_below, at_zero, has_t, has_more, has_other}
use Rattle.rules.specs.Deduce.{not_zero_at, not_zero_in, strict_in}
use Rattle.sign_laws.specs.Booleans.{and_intro, and_first, and_second, or-first, or-second, or_cases, never_both, never_true, not-true}
use Rattle.sign_laws.specs.Whole.{◌∈◌, ∈-sum, ∈-product, ∈-negation, ∈-intersect, by_sign, by_equal, by-same-sign, clash, wider, without-factor}
use Rattle.deduction_laws.specs.Fractions.{combined, moved, gap, gap-turned, denominator-positive, one-back, sign-at, opposite, gap-opposite, ◌below◌, is_below}
use Rattle.deduction_laws.specs.Ends.{Strength, weakly, strictly, signs, Before, from_free, apart, gap_of, in-order, in_order, through, through-weakly, to-itself}
use Rattle.deduction_laws.specs.Ends.{opposite_end, opposite-order, opposite-end-twice, after-zero}
use Rattle.deduction_laws.specs.FractionSets.{Side, Holds, Interior, allowed, StrictAt, this_row, later_row, Strict, by_q, by_row, Weakly, Strictly, interval}
use Rattle.deduction_laws.specs.Intervals.{Inside, interval-holds, Open, some-t, inner-t, open_by, open-by-inner}

-- ---- An interval turned about 0.

abbrev pub opposite_interval : Interval → Interval
opposite_interval r = record { low = opposite_end r.high; high = opposite_end r.low; void = r.void }

opposite-twice : (r : Interval) → opposite_interval (opposite_interval r) ≡ r
opposite-twice r = λ i. record { low = opposite-end-twice r.low i; high = opposite-end-twice r.high i; void = r.void }

opposite-inside : {r : Interval} {t : Fraction} → Inside r t → Inside (opposite_interval r) (opposite t)
opposite-inside {r} {t} i =
    record { not_void = i.not_void; over = (opposite-order (at t) r.high).1 i.under; under = (opposite-order r.low (at t)).1 i.over }

-- What is inside it is the opposite of what is inside the interval.
pub inside-opposite : {r : Interval} {t : Fraction} → Inside (opposite_interval r) t → Inside r (opposite t)
inside-opposite {r} {t} i = subst (λ (r : Interval). Inside r (opposite t)) (opposite-twice r) (opposite-inside i)

pub opposite-open : {o : Strength} {r : Interval} → Open o r → Open o (opposite_interval r)
opposite-open {r = r} k = record { not_void = k.not_void; ends = (opposite-order r.low r.high).1 k.ends }

-- ---- The tests on the ends.

abbrev opens : Strength → Interval → Bool
opens weakly = has_t
opens strictly = has_more

open-test : (o : Strength) (r : Interval) → (not r.void && in_order o r.low r.high ≡ true) ↔ Open o r
open-test o r = let test = and-eq-true_iff (not r.void) (in_order o r.low r.high) in (
  λ e. let k = test.0 e in record { not_void = not-true r.void k.0; ends = (in-order o r.low r.high).0 k.1 },
  λ k. test.1 (ap not k.not_void, (in-order o r.low r.high).1 k.ends),
)

-- There is a t if the ends are in order, and more than one if the lower end is below the upper.
pub is-open : (o : Strength) (r : Interval) → (opens o r ≡ true) ↔ Open o r
unfolding has_t has_more
is-open weakly = open-test weakly
is-open strictly = open-test strictly

-- ---- The tests on any interval.

-- The test that a t is inside.
abbrev pub has_at : Fraction → Interval → Bool
has_at t r = not r.void && end_at_most r.low (at t) && end_at_most (at t) r.high

-- A number is 0, or it is not.
pub is-zero : (z : ℤ) → (is_zero z ≡ true) ↔ (z ∈ 2)
unfolding is_zero open_signs
is-zero (pos zero) = (λ e. by_sign nought refl refl, λ h. refl)
is-zero (pos (suc n)) = (λ e. absurd (false≢true e), λ h. clash h (by_sign {a = 1} positive refl refl) refl)
is-zero (negsuc n) = (λ e. absurd (false≢true e), λ h. clash h (by_sign {a = 4} negative refl refl) refl)

pub not_zero : (z : ℤ) → (is_zero z ≡ false) ↔ (z ∈ 5)
unfolding is_zero open_signs
not_zero (pos zero) = (λ e. absurd (true≢false e), λ h. clash h (by_sign {a = 2} nought refl refl) refl)
not_zero (pos (suc n)) = (λ e. by_sign positive refl refl, λ h. refl)
not_zero (negsuc n) = (λ e. by_sign negative refl refl, λ h. refl)

pub zero_or_not : {X : Type 0} (z : ℤ) → (z ∈ 2 → X) → (z ∈ 5 → X) → X
zero_or_not {X} z f g = by (is_zero z) refl
  where
    by : (b : Bool) → is_zero z ≡ b → X
    by true e = f ((is-zero z).0 e)
    by false e = g ((not_zero z).0 e)

without-b : (a c d : ℤ) → a *ℤ d ≡ a *ℤ d +ℤ c *ℤ pos 0
without-b a c d = solve (a ∷ c ∷ d ∷ []) (# 0 :* # 2) (# 0 :* # 2 :+ # 1 :* con (pos 0)) tt

-- a + tb is 0 at one t at most, unless a and b are 0.
pub both_zero : (a b : ℤ) (t u : Fraction) → gap t u ∈ 1 → combined t a b ∈ 2 → combined u a b ∈ 2 → is_zero a && is_zero b ≡ true
unfolding open_signs is_zero
both_zero a (pos zero) t u g h k =
    and_intro ((is-zero a).1 (without-factor (denominator-positive t) (by_equal (without-b a t.numerator (denominator t)) h))) refl
both_zero a (pos (suc n)) t u g h k = clash (∈-product k (denominator-positive t))
    (by_equal (moved a (pos (suc n)) t u) (∈-sum (∈-product h (denominator-positive u)) (∈-product (by_sign {x = pos (suc n)} {a = 1} positive refl refl) g))) refl
both_zero a (negsuc n) t u g h k = clash (∈-product k (denominator-positive t))
    (by_equal (moved a (negsuc n) t u) (∈-sum (∈-product h (denominator-positive u)) (∈-product (by_sign {x = negsuc n} {a = 4} negative refl refl) g))) refl

zero_row : (c d : ℤ) → pos 0 *ℤ d +ℤ c *ℤ pos 0 ≡ pos 0
zero_row c d = solve (c ∷ d ∷ []) (con (pos 0) :* # 1 :+ # 0 :* con (pos 0)) (con (pos 0)) tt

-- If they are, a + tb is 0 everywhere.
pub zero-everywhere : (t : Fraction) (a b : ℤ) → is_zero a && is_zero b ≡ true → combined t a b ∈ 2
unfolding is_zero open_signs
zero-everywhere t (pos zero) (pos zero) e = by_equal (zero_row t.numerator (denominator t)) (by_sign nought refl refl)
zero-everywhere t (pos zero) (pos (suc n)) e = absurd (false≢true e)
zero-everywhere t (pos zero) (negsuc n) e = absurd (false≢true e)
zero-everywhere t (pos (suc m)) b e = absurd (false≢true e)
zero-everywhere t (negsuc m) b e = absurd (false≢true e)

pub used : (t : Fraction) (a b : ℤ) → combined t a b ∈ 5 → is_zero a && is_zero b ≡ false
unfolding open_signs
used t a b h = never_true (is_zero a && is_zero b) (λ e. clash h (zero-everywhere t a b e) refl)

-- The signs of a t above 0 are those of one that is not 0.
other_sign : {z : ℤ} → (z ∈ 1 → z ∈ 5) × (z ∈ 4 → z ∈ 5)
unfolding open_signs
other_sign = (λ h. wider h refl, λ h. wider h refl)

-- The kinds that are strict.
pub strict-kind : (X : Kind → Type 0) (k : Kind) → is_strict k ≡ true → X >0 → X <0 → X k
unfolding is_strict
strict-kind X ∅ e x y = absurd (false≢true e)
strict-kind X >0 e x y = x
strict-kind X =0 e x y = absurd (false≢true e)
strict-kind X ≥0 e x y = absurd (false≢true e)
strict-kind X <0 e x y = y
strict-kind X ≠0 e x y = absurd (false≢true e)
strict-kind X ≤0 e x y = absurd (false≢true e)
strict-kind X any e x y = absurd (false≢true e)

-- No row, none that is strict.
pub no_row : {t : Fraction} → StrictAt [] t → ⊥
no_row = elim [ ]

module _ (r : Interval) where
  pub t-inside : (has_t r ≡ true) ↔ ((t : Fraction) × Inside r t)
  t-inside = (
    λ e. let (t, i, b) = some-t {o = weakly} r free ((is-open weakly r).0 e) from_free in (t, i),
    λ (t, i). (is-open weakly r).1 (open_by i),
  )

  pub at-inside : (t : Fraction) → (has_at t r ≡ true) ↔ Inside r t
  at-inside t =
      let first = and-eq-true_iff (not r.void && end_at_most r.low (at t)) (end_at_most (at t) r.high) in
      let second = and-eq-true_iff (not r.void) (end_at_most r.low (at t)) in (
        λ e. let k = first.0 e in let j = second.0 k.0 in
            record { not_void = not-true r.void j.0; over = (in-order weakly r.low (at t)).0 j.1; under = (in-order weakly (at t) r.high).0 k.1 },
        λ i. first.1 (second.1 (ap not i.not_void, (in-order weakly r.low (at t)).1 i.over), (in-order weakly (at t) r.high).1 i.under),
      )

  -- More than one t.
  pub more-inside : (has_more r ≡ true) ↔ ((t : Fraction) × Interior (Inside r) t)
  more-inside = (
    λ e. let (t, i, b) = inner-t r free ((is-open strictly r).0 e) from_free in (t, i),
    λ (t, i). (is-open strictly r).1 (open-by-inner i),
  )

  -- One that is not 0.
  pub other-inside : (has_t r && has_other r ≡ true) ↔ ((t : Fraction) × Inside r t × (t.numerator ∈ 5))
  unfolding has_other at_zero open_signs
  other-inside = (
    λ e. let k = (is-open weakly r).0 (and_first (has_t r) (has_other r) e) in
        or_cases (end_below r.low at_zero) (end_below at_zero r.high) (and_second (has_t r) (has_other r) e)
        (λ b. let (t, i, c) = some-t {o = strictly} (opposite_interval r) at_zero (opposite-open k) ((opposite-order r.low at_zero).1 ((in-order strictly r.low at_zero).0 b)) in
        (opposite t, inside-opposite i, other_sign.1 (∈-negation ((after-zero {o = strictly} t).0 c))))
        (λ b. let (t, i, c) = some-t {o = strictly} r at_zero k ((in-order strictly at_zero r.high).0 b) in (t, i, other_sign.0 ((after-zero {o = strictly} t).0 c))),
    λ (t, i, h). and_intro ((is-open weakly r).1 (open_by i)) (by t i h (sign_of t.numerator) refl),
  )
    where
      by : (t : Fraction) → Inside r t → t.numerator ∈ 5 → (s : Sign) → sign_of t.numerator ≡ s → has_other r ≡ true
      by t i h negative e = or-first (end_below at_zero r.high) ((in-order strictly r.low at_zero).1 (through i.over
          ((opposite-order (at t) at_zero).0 ((after-zero {o = strictly} (opposite t)).1 (∈-negation (by_sign {x = t.numerator} {a = 4} negative e refl))))))
      by t i h nought e = clash h (by_sign {a = 2} nought e refl) refl
      by t i h positive e = or-second (end_below r.low at_zero)
          ((in-order strictly at_zero r.high).1 (through-weakly ((after-zero {o = strictly} t).1 (by_sign positive e refl)) i.under))

  module _ (a b : ℤ) where
    lowest : (x : End) → r.low ≡ x → has_t r ≡ true → not_zero_at x a b ≡ true → (t : Fraction) × Inside r t × (combined t a b ∈ 5)
    unfolding not_zero_at
    lowest free e h n = absurd (false≢true n)
    lowest (at t) e h n = let k = (is-open weakly r).0 h in (
      t,
      record { not_void = k.not_void; over = subst (λ (x : End). Before weakly x (at t)) (sym e) (to-itself t); under = subst (λ (x : End). Before weakly x r.high) e k.ends },
      (not_zero (combined t a b)).0 (not-true (is_zero (combined t a b)) n),
    )

    -- The one of two.
    one_of : has_more r ≡ true → is_zero a && is_zero b ≡ false → (t : Fraction) × Inside r t × (combined t a b ∈ 5)
    one_of h u = let (t, i) = more-inside.0 h in zero_or_not (combined t a b)
        (λ z. zero_or_not (combined i.smaller a b) (λ y. never_both (both_zero a b i.smaller t ((is_below i.smaller t).0 i.smaller_below) y z) u)
        (λ y. (i.smaller, i.smaller_held, y)))
        (λ z. (t, i.held, z))

    -- The one t, where the interval has one only.
    alone : (x : End) → r.low ≡ x → has_more r ≡ false → (t : Fraction) → Inside r t → combined t a b ∈ 5 → not_zero_at x a b ≡ true
    unfolding not_zero_at open_signs
    alone free e h t i n = never_both ((is-open strictly r).1 (record { not_void = i.not_void; ends = subst (λ (x : End). Before strictly x r.high) (sym e) from_free })) h
    alone (at u) e h t i n = let c = combined u a b in ap not ((not_zero c).1 (by-same-sign (sign-at t u a b (one-back u t level)) n))
      where
        over : gap u t ∈ 3
        over = gap_of (subst (λ (x : End). Before weakly x (at t)) e i.over)

        level : gap u t ∈ 2
        level = by (sign_of (gap u t)) refl
          where
            by : (s : Sign) → sign_of (gap u t) ≡ s → gap u t ∈ 2
            by negative f = clash over (by_sign {a = 4} negative f refl) refl
            by nought f = by_sign nought f refl
            by positive f = never_both ((is-open strictly r).1 (record {
              not_void = i.not_void;
              ends = subst (λ (x : End). Before strictly x r.high) (sym e) (through {i = strictly} (apart (by_sign positive f refl)) i.under);
            })) h

    -- One at which a + tb is not 0.
    pub not-zero-inside : (has_t r && not_zero_in r a b ≡ true) ↔ ((t : Fraction) × Inside r t × (combined t a b ∈ 5))
    unfolding not_zero_in
    not-zero-inside = (
      λ e. let h = and_first (has_t r) (not_zero_in r a b) e in
          or_cases (not_zero_at r.low a b) (has_more r && not (is_zero a && is_zero b)) (and_second (has_t r) (not_zero_in r a b) e)
          (λ n. lowest r.low refl h n)
          (λ n. one_of (and_first (has_more r) _ n) (not-true (is_zero a && is_zero b) (and_second (has_more r) _ n))),
      λ (t, i, n). and_intro ((is-open weakly r).1 (open_by i)) (by t i n (has_more r) refl),
    )
      where
        by : (t : Fraction) → Inside r t → combined t a b ∈ 5 → (m : Bool) → has_more r ≡ m → not_zero_in r a b ≡ true
        by t i n true e = or-second (not_zero_at r.low a b) (and_intro e (ap not (used t a b n)))
        by t i n false e = or-first (has_more r && not (is_zero a && is_zero b)) (alone r.low refl e t i n)

  -- One at which some monomial is strict.
  pub strict-inside : (xs : List Row) → (has_t r && strict_in r xs ≡ true) ↔ ((t : Fraction) × Inside r t × StrictAt xs t)
  unfolding strict_in
  strict-inside [] = (λ e. absurd (false≢true (and_second (has_t r) false e)), λ (t, i, s). absurd (no_row s))
  strict-inside (x ∷ xs) = let this = not-zero-inside x.a x.b in let later = strict-inside xs in (
    λ e. let h = and_first (has_t r) _ e in
        or_cases (is_strict x.s && not_zero_in r x.a x.b) (strict_in r xs) (and_second (has_t r) _ e)
        (λ n. let (t, i, k) = this.0 (and_intro h (and_second (is_strict x.s) _ n)) in (t, i, this_row (and_first (is_strict x.s) _ n) k))
        (λ n. let (t, i, k) = later.0 (and_intro h n) in (t, i, later_row k)),
    λ (t, i, s). and_intro ((is-open weakly r).1 (open_by i)) (by later.1 t i s),
  )
    where
      by : (((t : Fraction) × Inside r t × StrictAt xs t) → has_t r && strict_in r xs ≡ true)
          → (t : Fraction) → Inside r t → StrictAt (x ∷ xs) t → (is_strict x.s && not_zero_in r x.a x.b) || strict_in r xs ≡ true
      by later t i (this_row e k) = or-first (strict_in r xs) (and_intro e (and_second (has_t r) _ ((not-zero-inside x.a x.b).1 (t, i, k))))
      by later t i (later_row s) = or-second (is_strict x.s && not_zero_in r x.a x.b) (and_second (has_t r) _ (later (t, i, s)))

  -- The book's test of a strict finding.
  abbrev pub strict_test : Kind → List Row → Bool
  strict_test k xs = has_t r && ((is_strict k && has_other r) || strict_in r xs)

  -- One at which the finding is strict.
  pub found_inside : (k : Kind) (xs : List Row) → (strict_test k xs ≡ true) ↔ ((t : Fraction) × Inside r t × Strict k xs t)
  found_inside k xs = (
    λ e. let h = and_first (has_t r) _ e in or_cases (is_strict k && has_other r) (strict_in r xs) (and_second (has_t r) _ e)
        (λ n. let (t, i, s) = other-inside.0 (and_intro h (and_second (is_strict k) _ n)) in (t, i, by_q (and_first (is_strict k) _ n) s))
        (λ n. let (t, i, s) = (strict-inside xs).0 (and_intro h n) in (t, i, by_row s)),
    λ (t, i, s). and_intro ((is-open weakly r).1 (open_by i)) (by t i s),
  )
    where
      by : (t : Fraction) → Inside r t → Strict k xs t → (is_strict k && has_other r) || strict_in r xs ≡ true
      by t i (by_q e s) = or-first (strict_in r xs) (and_intro e (and_second (has_t r) _ (other-inside.1 (t, i, s))))
      by t i (by_row s) = or-second (is_strict k && has_other r) (and_second (has_t r) _ ((strict-inside xs).1 (t, i, s)))

-- ---- The two tests of a finding, in the documents' words (said of L; U is the other side).

module _ (side : Side) (k : Kind) (rows : List Row) where
  -- "L has a t" of the sign that q's set asks for.
  pub weakly-found : (has_t (interval side k rows) ≡ true) ↔ Weakly side k rows
  weakly-found = let test = t-inside (interval side k rows) in (
    λ e. let (t, i) = test.0 e in let (h, s) = (interval-holds side k rows t).0 i in record { t = t; held = h; sign = s },
    λ w. test.1 (w.t, (interval-holds side k rows w.t).1 (w.held, w.sign)),
  )

  -- And one at which the finding is strict.
  pub strictly-found : (strict_test (interval side k rows) k rows ≡ true) ↔ Strictly side k rows
  strictly-found = let test = found_inside (interval side k rows) k rows in (
    λ e. let (t, i, n) = test.0 e in let (h, s) = (interval-holds side k rows t).0 i in record { t = t; held = h; sign = s; strict = n },
    λ w. test.1 (w.t, (interval-holds side k rows w.t).1 (w.held, w.sign), w.strict),
  )
