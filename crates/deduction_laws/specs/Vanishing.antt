-- The monomials with set > or <, in one pass over the rows: the t at which all of them vanish. There no finding is strict on their account (02, #104).
-- They vanish where a + tb does, a and b being of the first that does not vanish at every t; and nowhere, if a further one does not vanish with it.
use Rattle.std.specs.Prelude.{◌≡◌, Bool, true, false, not, ◌&&◌, ◌||◌, List, [], ◌∷◌, ◌↔◌, ℤ, pos, negsuc, neg_ℤ, ◌+ℤ◌, ◌*ℤ◌, ◌-ℤ◌}
use Rattle.std.proofs.Math.Path.{refl}
use Rattle.std.proofs.Common.{sym, ap, ap₂, ◌∙◌}
use Rattle.std.proofs.Math.Bool.{or-true, or-false}
use Rattle.std.proofs.Math.IntN.{neg_ℤ-neg_ℤ}
use Rattle.whole.specs.Solver.{#, con, ◌:+◌, ◌:-◌, ◌:*◌, neg, solve}
use Rattle.rules.specs.Signs.{sign_of, SignSet, full, has, Kind, ∅, >0, =0, ≥0, <0, ≠0, ≤0, any, named, mirror, intersect, open_signs}
use Rattle.rules.specs.Deduce.{Fraction, denominator, Interval, cut_not_negative, Row, every_t, interval_l, interval_u, is_strict, is_zero, no_t, allowed_l, allowed_u, has_t, has_other}
use Rattle.rules.specs.Deduce.{not_zero_in, strict_in, found, found_in, finding_of}
use Rattle.sign_laws.specs.Booleans.{both_ways, never_true, and_intro, and_first, and_second, or-first, or-second, or_cases, never_both, not-true}
use Rattle.sign_laws.specs.Sets.{in-empty}
use Rattle.sign_laws.specs.Whole.{◌∈◌, ∈-sum, ∈-product, ∈-negation, ∈-full, by_equal, clash, without-factor}
use Rattle.deduction_laws.specs.Fractions.{combined, gap, denominator-positive, sign-at}
use Rattle.deduction_laws.specs.FractionSets.{Side, L, U, allowed, allowed_t, StrictAt, this_row, later_row}
use Rattle.deduction_laws.specs.Intervals.{Inside, cut-not-negative, interval_from, interval-from, in-every_t, in-allowed}
use Rattle.deduction_laws.specs.Exact.{is-zero, not_zero, zero_or_not, zero-everywhere, no_row, t-inside, other-inside, not-zero-inside, strict_test, strict-inside}
use Rattle.deduction_laws.specs.Found.{Same, same-t}

pub record Vanishing : Type 0 where
  pub a : ℤ
  pub b : ℤ
  pub never : Bool

-- No such row: nothing is left that does not vanish.
unfoldable pub everywhere : Vanishing
everywhere = record { a = pos 0; b = pos 0; never = false }

-- Two rows do not vanish together.
unfoldable pub apart : ℤ → ℤ → ℤ → ℤ → Bool
apart a b c d = not (is_zero (a *ℤ d -ℤ c *ℤ b))

-- With a row that counts, or does not; where none was there yet that can be told from 0, or one was.
unfoldable pub counted : Bool → Bool → ℤ → ℤ → Vanishing → Vanishing
counted false none c d v = v
counted true true c d v = record { a = c; b = d; never = false }
counted true false c d v = record { a = v.a; b = v.b; never = apart v.a v.b c d }

unfoldable pub vanish_row : Kind → ℤ → ℤ → Vanishing → Vanishing
vanish_row k c d v = counted (not v.never && is_strict k) (is_zero v.a && is_zero v.b) c d v

unfoldable pub vanish_rows : Vanishing → List Row → Vanishing
vanish_rows v [] = v
vanish_rows v (x ∷ xs) = vanish_rows (vanish_row x.s x.a x.b v) xs

-- Some of them does not vanish at t.
unfoldable pub strict_where : Vanishing → Fraction → Bool
strict_where v t = v.never || not (is_zero (combined t v.a v.b))

-- Some of them does not vanish at some t of the interval, if it has any.
unfoldable pub strict_by : Interval → Vanishing → Bool
strict_by r v = v.never || not_zero_in r v.a v.b

-- What is found, by them.
unfoldable pub found_by : Kind → Interval → Vanishing → SignSet
found_by k r v = found (has_t r && ((is_strict k && has_other r) || strict_by r v)) (has_t r)

-- The t of an interval that q's set allows.
unfoldable pub only_allowed : Side → Kind → Interval → Interval
only_allowed L <0 r = cut_not_negative (pos 0) (pos 1) r
only_allowed L ≤0 r = cut_not_negative (pos 0) (pos 1) r
only_allowed L >0 r = cut_not_negative (pos 0) (negsuc 0) r
only_allowed L ≥0 r = cut_not_negative (pos 0) (negsuc 0) r
only_allowed L =0 r = r
only_allowed L ≠0 r = no_t
only_allowed L any r = no_t
only_allowed L ∅ r = no_t
only_allowed U <0 r = cut_not_negative (pos 0) (negsuc 0) r
only_allowed U ≤0 r = cut_not_negative (pos 0) (negsuc 0) r
only_allowed U >0 r = cut_not_negative (pos 0) (pos 1) r
only_allowed U ≥0 r = cut_not_negative (pos 0) (pos 1) r
only_allowed U =0 r = r
only_allowed U ≠0 r = no_t
only_allowed U any r = no_t
only_allowed U ∅ r = no_t

-- What is found from L and U, each as its own rows leave it.
abbrev pub finding_by : Kind → Interval → Interval → Vanishing → SignSet
finding_by k l u v = intersect (found_by k (only_allowed L k l) v) (mirror (found_by k (only_allowed U k u) v))

-- ---- Two rows.

module _ (a b c d : ℤ) (t : Fraction) where
  -- (ad - cb) times t's denominator, (c + td)a and (c + td)b, from a + tb and the others.
  apart-sum : (a *ℤ d -ℤ c *ℤ b) *ℤ denominator t ≡ d *ℤ combined t a b +ℤ neg_ℤ (b *ℤ combined t c d)
  apart-sum = solve (a ∷ b ∷ c ∷ d ∷ t.numerator ∷ denominator t ∷ [])
      ((# 0 :* # 3 :- # 2 :* # 1) :* # 5) (# 3 :* (# 0 :* # 5 :+ # 4 :* # 1) :+ neg (# 1 :* (# 2 :* # 5 :+ # 4 :* # 3))) tt

  times-a : combined t c d *ℤ a ≡ c *ℤ combined t a b +ℤ t.numerator *ℤ (a *ℤ d -ℤ c *ℤ b)
  times-a = solve (a ∷ b ∷ c ∷ d ∷ t.numerator ∷ denominator t ∷ [])
      ((# 2 :* # 5 :+ # 4 :* # 3) :* # 0) (# 2 :* (# 0 :* # 5 :+ # 4 :* # 1) :+ # 4 :* (# 0 :* # 3 :- # 2 :* # 1)) tt

  times-b : combined t c d *ℤ b ≡ d *ℤ combined t a b +ℤ neg_ℤ (denominator t *ℤ (a *ℤ d -ℤ c *ℤ b))
  times-b = solve (a ∷ b ∷ c ∷ d ∷ t.numerator ∷ denominator t ∷ [])
      ((# 2 :* # 5 :+ # 4 :* # 3) :* # 1) (# 3 :* (# 0 :* # 5 :+ # 4 :* # 1) :+ neg (# 5 :* (# 0 :* # 3 :- # 2 :* # 1))) tt

  -- Both vanish at t only if ad = cb.
  not-apart : combined t a b ∈ 2 → combined t c d ∈ 2 → (a *ℤ d -ℤ c *ℤ b) ∈ 2
  unfolding open_signs
  not-apart h k = without-factor (denominator-positive t) (by_equal apart-sum (∈-sum (∈-product (∈-full d) h) (∈-negation (∈-product (∈-full b) k))))

  -- And then the one vanishes with the other, unless that vanishes everywhere.
  with_it : is_zero a && is_zero b ≡ false → (a *ℤ d -ℤ c *ℤ b) ∈ 2 → combined t a b ∈ 2 → combined t c d ∈ 2
  unfolding open_signs
  with_it some h k = zero_or_not (combined t c d) (λ z. z) (λ n. zero_or_not a
      (λ x. zero_or_not b (λ y. never_both (and_intro ((is-zero a).1 x) ((is-zero b).1 y)) some)
      (λ y. clash (∈-product n y) (by_equal times-b (∈-sum (∈-product (∈-full d) k) (∈-negation (∈-product (∈-full (denominator t)) h)))) refl))
      (λ x. clash (∈-product n x) (by_equal times-a (∈-sum (∈-product (∈-full c) k) (∈-product (∈-full t.numerator) h))) refl))

of-two : (x p q : Bool) → (x ≡ true → p ≡ true → q ≡ true) → (p ≡ true → q ≡ true → x ≡ true) → not x || not p ≡ not p || not q
of-two x true q f g = or-false (not x) ∙ ap not (both_ways x q (λ e. f e refl) (λ e. g refl e))
of-two x false q f g = or-true (not x)

-- ---- One row more.

row_by : (n k z : Bool) (a b c d : ℤ) (t : Fraction) → is_zero a && is_zero b ≡ z
    → strict_where (counted (not n && k) z c d (record { a = a; b = b; never = n })) t
    ≡ strict_where (record { a = a; b = b; never = n }) t || (k && not (is_zero (combined t c d)))
unfolding strict_where counted apart
row_by true k z a b c d t e = refl
row_by false false z a b c d t e = sym (or-false _)
row_by false true true a b c d t e = rw ((is-zero (combined t a b)).1 (zero-everywhere t a b e))
row_by false true false a b c d t e = of-two (is_zero (a *ℤ d -ℤ c *ℤ b)) (is_zero (combined t a b)) (is_zero (combined t c d))
    (λ x p. (is-zero (combined t c d)).1 (with_it a b c d t e ((is-zero (a *ℤ d -ℤ c *ℤ b)).0 x) ((is-zero (combined t a b)).0 p)))
    (λ p q. (is-zero (a *ℤ d -ℤ c *ℤ b)).1 (not-apart a b c d t ((is-zero (combined t a b)).0 p) ((is-zero (combined t c d)).0 q)))

-- It is strict at t too.
pub strict-row : (k : Kind) (c d : ℤ) (v : Vanishing) (t : Fraction) → strict_where (vanish_row k c d v) t ≡ strict_where v t || (is_strict k && not (is_zero (combined t c d)))
unfolding vanish_row
strict-row k c d v t = row_by v.never (is_strict k) (is_zero v.a && is_zero v.b) v.a v.b c d t refl

-- What is strict where the other is stays so with the rows that come after.
pub same-strict-rows : (v w : Vanishing) (t : Fraction) (xs : List Row) → strict_where v t ≡ strict_where w t → strict_where (vanish_rows v xs) t ≡ strict_where (vanish_rows w xs) t
unfolding vanish_rows
same-strict-rows v w t [] e = e
same-strict-rows v w t (x ∷ xs) e = same-strict-rows (vanish_row x.s x.a x.b v) (vanish_row x.s x.a x.b w) t xs
    (strict-row x.s x.a x.b v t ∙ ap (λ (y : Bool). y || (is_strict x.s && not (is_zero (combined t x.a x.b)))) e ∙ sym (strict-row x.s x.a x.b w t))

-- ---- All rows.

-- A number by its sign.
pub zero-by-sign : (x y : ℤ) → sign_of x ≡ sign_of y → is_zero x ≡ is_zero y
unfolding open_signs
zero-by-sign x y e = both_ways (is_zero x) (is_zero y)
    (λ h. (is-zero y).1 (record { sign = record { is = ap (λ s. has s 2) (sym e) ∙ ((is-zero x).0 h).sign.is } }))
    (λ h. (is-zero x).1 (record { sign = record { is = ap (λ s. has s 2) e ∙ ((is-zero y).0 h).sign.is } }))

-- At t's with no gap between them it is the same.
pub strict-at-one : (v : Vanishing) (t u : Fraction) → gap t u ∈ 2 → strict_where v u ≡ strict_where v t
unfolding strict_where
strict-at-one v t u h = ap (λ (z : Bool). v.never || not z) (zero-by-sign _ _ (sign-at t u v.a v.b h))

-- A row is strict at t: one that was there before, or one of these.
strict-rows : (v : Vanishing) (t : Fraction) (xs : List Row) → (strict_where v t ≡ true → strict_where (vanish_rows v xs) t ≡ true)
    × (StrictAt xs t → strict_where (vanish_rows v xs) t ≡ true)
unfolding vanish_rows
strict-rows v t [] = (λ e. e, λ s. absurd (no_row s))
strict-rows v t (x ∷ xs) = let more = strict-rows (vanish_row x.s x.a x.b v) t xs in
    let row = strict-row x.s x.a x.b v t in (λ e. more.0 (row ∙ or-first _ e), λ s. by more row s)
  where
    by : (strict_where (vanish_row x.s x.a x.b v) t ≡ true → strict_where (vanish_rows v (x ∷ xs)) t ≡ true)
        × (StrictAt xs t → strict_where (vanish_rows v (x ∷ xs)) t ≡ true)
        → strict_where (vanish_row x.s x.a x.b v) t ≡ strict_where v t || (is_strict x.s && not (is_zero (combined t x.a x.b)))
        → StrictAt (x ∷ xs) t → strict_where (vanish_rows v (x ∷ xs)) t ≡ true
    by more row (this_row e n) = more.0 (row ∙ or-second (strict_where v t) (and_intro e (ap not ((not_zero (combined t x.a x.b)).1 n))))
    by more row (later_row s) = more.1 s

strict-rows-back : {X : Type 0} (v : Vanishing) (t : Fraction) (xs : List Row) → strict_where (vanish_rows v xs) t ≡ true
    → (strict_where v t ≡ true → X) → (StrictAt xs t → X) → X
unfolding vanish_rows
strict-rows-back v t [] e f g = f e
strict-rows-back v t (x ∷ xs) e f g = strict-rows-back (vanish_row x.s x.a x.b v) t xs e
    (λ h. or_cases (strict_where v t) _ (sym (strict-row x.s x.a x.b v t) ∙ h) f
    (λ n. g (this_row (and_first (is_strict x.s) _ n) ((not_zero _).0 (not-true _ (and_second (is_strict x.s) _ n))))))
    (λ s. g (later_row s))

-- Where nothing is left but whether some row never vanishes.
pub strict-said : (never : Bool) (t : Fraction) → strict_where (record { a = pos 0; b = pos 0; never = never }) t ≡ never
unfolding strict_where is_zero
strict-said never t = ap (λ (z : Bool). never || not z) ((is-zero (combined t (pos 0) (pos 0))).1 (zero-everywhere t (pos 0) (pos 0) refl)) ∙ or-false never

-- ---- On an interval.

strict-by : (r : Interval) (v : Vanishing) → (has_t r && strict_by r v ≡ true) ↔ ((t : Fraction) × Inside r t × (strict_where v t ≡ true))
unfolding strict_by strict_where
strict-by r v = (
  λ e. let h = and_first (has_t r) _ e in or_cases v.never (not_zero_in r v.a v.b) (and_second (has_t r) _ e)
      (λ n. let (t, i) = (t-inside r).0 h in (t, i, or-first _ n))
      (λ n. let (t, i, s) = (not-zero-inside r v.a v.b).0 (and_intro h n) in (t, i, or-second v.never (ap not ((not_zero _).1 s)))),
  λ (t, i, s). let h = (t-inside r).1 (t, i) in and_intro h (or_cases v.never _ s (λ n. or-first _ n)
      (λ n. or-second v.never (and_second (has_t r) _ ((not-zero-inside r v.a v.b).1 (t, i, (not_zero _).0 (not-true _ n)))))),
)

-- The strict test of found_by.
abbrev test_by : Kind → Interval → Vanishing → Bool
test_by k r v = has_t r && ((is_strict k && has_other r) || strict_by r v)

test-by : (k : Kind) (r x : Interval) (v w : Vanishing) → ((t : Fraction) → Inside r t → Inside x t) → ((t : Fraction) → Inside r t → strict_where v t ≡ true → strict_where w t ≡ true)
    → test_by k r v ≡ true → test_by k x w ≡ true
test-by k r x v w to strict e = let h = and_first (has_t r) _ e in let (u, j) = (t-inside r).0 h in and_intro ((t-inside x).1 (u, to u j))
    (or_cases (is_strict k && has_other r) (strict_by r v) (and_second (has_t r) _ e)
    (λ n. let (t, i, s) = (other-inside r).0 (and_intro h (and_second (is_strict k) _ n)) in
    or-first (strict_by x w) (and_intro (and_first (is_strict k) _ n) (and_second (has_t x) _ ((other-inside x).1 (t, to t i, s)))))
    (λ n. let (t, i, s) = (strict-by r v).0 (and_intro h n) in or-second (is_strict k && has_other x) (and_second (has_t x) _ ((strict-by x w).1 (t, to t i, strict t i s)))))

-- Intervals with the same t, at which they are strict alike, give the same finding.
same-found-by : (k : Kind) {r x : Interval} (v w : Vanishing) → Same r x → ((t : Fraction) → Inside x t → strict_where v t ≡ strict_where w t) → found_by k r v ≡ found_by k x w
unfolding found_by
same-found-by k {r} {x} v w s e = ap₂ found
    (both_ways (test_by k r v) (test_by k x w) (test-by k r x v w s.to (λ t i h. sym (e t (s.to t i)) ∙ h)) (test-by k x r w v s.back (λ t i h. e t i ∙ h))) (same-t s)

-- Where no t is left, nothing is found.
nothing-by : (k : Kind) (r : Interval) (v : Vanishing) → has_t r ≡ false → found_by k r v ≡ full
unfolding found_by found
nothing-by k r v e = rw e

-- And what is found by the rows in one pass is the book's finding.
in-one-pass : (k : Kind) (r : Interval) (xs : List Row) → found_by k r (vanish_rows everywhere xs) ≡ found_in k r xs
unfolding found_by found_in everywhere
in-one-pass k r xs = let v = vanish_rows everywhere xs in ap (λ (b : Bool). found b (has_t r)) (both_ways (test_by k r v) (strict_test r k xs)
    (λ e. let h = and_first (has_t r) _ e in and_intro h (or_cases (is_strict k && has_other r) (strict_by r v) (and_second (has_t r) _ e) (λ n. or-first _ n)
    (λ n. or-second (is_strict k && has_other r) (and_second (has_t r) _ (let (t, i, s) = (strict-by r v).0 (and_intro h n) in
    (strict-inside r xs).1 (t, i, strict-rows-back everywhere t xs s (λ f. never_both f (strict-said false t)) (λ s. s)))))))
    (λ e. let h = and_first (has_t r) _ e in and_intro h (or_cases (is_strict k && has_other r) (strict_in r xs) (and_second (has_t r) _ e) (λ n. or-first _ n)
    (λ n. or-second (is_strict k && has_other r) (and_second (has_t r) _ (let (t, i, s) = (strict-inside r xs).0 (and_intro h n) in (strict-by r v).1 (t, i, (strict-rows everywhere t xs).1 s)))))))

-- ---- The allowed t, asked for at the end.

by_one : (c d : ℤ) → pos 0 *ℤ d +ℤ c *ℤ pos 1 ≡ c
by_one c d = solve (c ∷ d ∷ []) (con (pos 0) :* # 1 :+ # 0 :* con (pos 1)) (# 0) tt

by-minus-one : (c d : ℤ) → pos 0 *ℤ d +ℤ c *ℤ negsuc 0 ≡ neg_ℤ c
by-minus-one c d = solve (c ∷ d ∷ []) (con (pos 0) :* # 1 :+ # 0 :* con (negsuc 0)) (neg (# 0)) tt

module _ (r : Interval) (t : Fraction) where
  from-zero : Inside (cut_not_negative (pos 0) (pos 1) r) t ↔ ((t.numerator ∈ 3) × Inside r t)
  from-zero = let cut = cut-not-negative (pos 0) (pos 1) r t in let same = by_one t.numerator (denominator t) in
      (λ i. (by_equal (sym same) (cut.0 i).0, (cut.0 i).1), λ (h, i). cut.1 (by_equal same h, i))

  to-zero : Inside (cut_not_negative (pos 0) (negsuc 0) r) t ↔ ((t.numerator ∈ 6) × Inside r t)
  unfolding open_signs
  to-zero = let cut = cut-not-negative (pos 0) (negsuc 0) r t in let same = by-minus-one t.numerator (denominator t) in (
    λ i. (by_equal (sym (neg_ℤ-neg_ℤ t.numerator)) (∈-negation (by_equal (sym same) (cut.0 i).0)), (cut.0 i).1),
    λ (h, i). cut.1 (by_equal same (∈-negation h), i),
  )

  all-t : Inside r t ↔ ((t.numerator ∈ 7) × Inside r t)
  all-t = (λ i. (∈-full t.numerator, i), λ (h, i). i)

  none-t : Inside no_t t ↔ ((t.numerator ∈ 0) × Inside r t)
  unfolding no_t
  none-t = (λ i. never_both refl i.not_void, λ (h, i). in-empty h.sign)

  only-allowed : (side : Side) (k : Kind) → Inside (only_allowed side k r) t ↔ ((t.numerator ∈ named (allowed side k)) × Inside r t)
  unfolding only_allowed named
  only-allowed L ∅ = none-t
  only-allowed L >0 = to-zero
  only-allowed L =0 = all-t
  only-allowed L ≥0 = to-zero
  only-allowed L <0 = from-zero
  only-allowed L ≠0 = none-t
  only-allowed L ≤0 = from-zero
  only-allowed L any = none-t
  only-allowed U ∅ = none-t
  only-allowed U >0 = from-zero
  only-allowed U =0 = all-t
  only-allowed U ≥0 = from-zero
  only-allowed U <0 = to-zero
  only-allowed U ≠0 = none-t
  only-allowed U ≤0 = to-zero
  only-allowed U any = none-t

-- Intervals with the same t have the same allowed ones.
same-allowed : (side : Side) (k : Kind) {r x : Interval} → Same r x → Same (only_allowed side k r) (only_allowed side k x)
same-allowed side k {r} {x} s = record {
  to = λ t i. let (h, j) = (only-allowed r t side k).0 i in (only-allowed x t side k).1 (h, s.to t j);
  back = λ t i. let (h, j) = (only-allowed x t side k).0 i in (only-allowed r t side k).1 (h, s.back t j);
}

-- So they give the same finding, if they are strict alike at their t.
pub same-finding : (side : Side) (k : Kind) {r x : Interval} (v w : Vanishing) → Same r x → ((t : Fraction) → Inside x t → strict_where v t ≡ strict_where w t)
    → found_by k (only_allowed side k r) v ≡ found_by k (only_allowed side k x) w
same-finding side k {r} {x} v w s e = same-found-by k v w (same-allowed side k s) (λ t i. e t ((only-allowed x t side k).0 i).1)

-- Where there is no t, none is allowed.
pub none_left : (side : Side) (k : Kind) (r : Interval) (v : Vanishing) → has_t r ≡ false → found_by k (only_allowed side k r) v ≡ full
none_left side k r v e = nothing-by k (only_allowed side k r) v (never_true (has_t (only_allowed side k r))
    (λ h. let (t, i) = (t-inside (only_allowed side k r)).0 h in never_both ((t-inside r).1 (t, ((only-allowed r t side k).0 i).1)) e))

-- The rows cut from every t leave, of the allowed ones, what they leave of these.
cut-from-every : (side : Side) (k : Kind) (xs : List Row) → Same (only_allowed side k (interval_from side every_t xs)) (interval_from side (allowed_t side k) xs)
cut-from-every side k xs = record {
  to = λ t i. let (h, j) = (only-allowed (interval_from side every_t xs) t side k).0 i in
      (interval-from side (allowed_t side k) xs t).1 (((interval-from side every_t xs t).0 j).0, (in-allowed side k t).1 h);
  back = λ t i. let (h, j) = (interval-from side (allowed_t side k) xs t).0 i in
      (only-allowed (interval_from side every_t xs) t side k).1 ((in-allowed side k t).0 j, (interval-from side every_t xs t).1 (h, (in-every_t t).1 (∈-full t.numerator)));
}

-- So what is found in one pass over the rows, from every t on, is the book's finding.
pub finding-in-one-pass : (k : Kind) (xs : List Row) → finding_by k (interval_l every_t xs) (interval_u every_t xs) (vanish_rows everywhere xs) ≡ finding_of k xs
unfolding finding_of
finding-in-one-pass k xs = let v = vanish_rows everywhere xs in ap₂ (λ (s t : SignSet). intersect s (mirror t))
    (same-found-by k v v (cut-from-every L k xs) (λ t i. refl) ∙ in-one-pass k (interval_l (allowed_l k) xs) xs)
    (same-found-by k v v (cut-from-every U k xs) (λ t i. refl) ∙ in-one-pass k (interval_u (allowed_u k) xs) xs)
