-- Findings only grew with 02, #104: each finding that 01 made before it is made by the new rule.
-- 01's five bullets are here in their own words, with their "strict" and their interior; they are no part of the book any more.
use Rattle.std.specs.Prelude.{◌≡◌, refl, Bool, true, false, not, ◌&&◌, ◌||◌, List, [], ◌∷◌, ℤ}
use Rattle.std.proofs.Common.{sym}
use Rattle.std.proofs.lemmas.Bool.{false≢true}
use Rattle.std.proofs.Math.IntN.{neg_ℤ-neg_ℤ}
use Rattle.rules.specs.Signs.{nought, Kind, ∅, >0, =0, ≥0, <0, ≠0, ≤0, any, named, inside, open_signs}
use Rattle.rules.specs.Deduce.{Fraction, Row, is_strict, is_zero}
use Rattle.sign_laws.specs.Booleans.{and_first, and_second, or_cases, never_both, not-true}
use Rattle.sign_laws.specs.Whole.{◌∈◌, ∈-negation, ∈-full, by_sign, by_equal, wider, clash}
use Rattle.deduction_laws.specs.Fractions.{combined, gap, gap-opposite, zero_fraction, opposite, is_below}
use Rattle.deduction_laws.specs.Ends.{Strength, weakly, strictly, apart, through, after-zero}
use Rattle.deduction_laws.specs.FractionSets.{Side, L, U, Holds, Interior, allowed, StrictAt, this_row, later_row, by_q, by_row, Weakly, Strictly}
use Rattle.deduction_laws.specs.Exact.{zero_or_not, both_zero, strict-kind}

-- ---- The words of 01.

-- "*Strict* means that some s is > or <."
unfoldable pub strict : List Row → Bool
strict [] = false
strict (x ∷ xs) = (is_strict x.s && not (is_zero x.a && is_zero x.b)) || strict xs

-- The sign that a strict finding asked for: above or below 0 by q's set, any with =.
abbrev pub past : Side → Kind → Kind
past L <0 = >0
past L ≤0 = >0
past L >0 = <0
past L ≥0 = <0
past L =0 = any
past L ≠0 = ∅
past L any = ∅
past L ∅ = ∅
past U <0 = <0
past U ≤0 = <0
past U >0 = >0
past U ≥0 = >0
past U =0 = any
past U ≠0 = ∅
past U any = ∅
past U ∅ = ∅

pub data Found01 (side : Side) (k : Kind) (rows : List Row) : Strength → Type 0 where
  -- "if L has a t > 0, p > 0", with q's set < or >
  by_sign_of_q : is_strict k ≡ true → (t : Fraction) → Holds side rows t → t.numerator ∈ named (past side k) → Found01 side k rows strictly
  -- "else if 0 is in L, p ≥ 0"
  by_zero : is_strict k ≡ true → Holds side rows zero_fraction → Found01 side k rows weakly
  -- "if strict and L's interior has a t > 0, p > 0", or with = any t
  by_interior : strict rows ≡ true → (t : Fraction) → Interior (Holds side rows) t → t.numerator ∈ named (past side k) → Found01 side k rows strictly
  -- "else if L has a t ≥ 0, p ≥ 0", or with = any t
  by_any : (t : Fraction) → Holds side rows t → t.numerator ∈ named (allowed side k) → Found01 side k rows weakly

-- ---- The t that was asked for is allowed, and not 0 if q is above or below 0.

past-allowed : (side : Side) (k : Kind) → inside (named (past side k)) (named (allowed side k)) ≡ true
unfolding open_signs
past-allowed L ∅ = refl
past-allowed L >0 = refl
past-allowed L =0 = refl
past-allowed L ≥0 = refl
past-allowed L <0 = refl
past-allowed L ≠0 = refl
past-allowed L ≤0 = refl
past-allowed L any = refl
past-allowed U ∅ = refl
past-allowed U >0 = refl
past-allowed U =0 = refl
past-allowed U ≥0 = refl
past-allowed U <0 = refl
past-allowed U ≠0 = refl
past-allowed U ≤0 = refl
past-allowed U any = refl

past-other : (side : Side) (k : Kind) → is_strict k ≡ true → inside (named (past side k)) 5 ≡ true
unfolding open_signs
past-other L k e = strict-kind (λ k. inside (named (past L k)) 5 ≡ true) k e refl refl
past-other U k e = strict-kind (λ k. inside (named (past U k)) 5 ≡ true) k e refl refl

zero-allowed : (side : Side) (k : Kind) → is_strict k ≡ true → zero_fraction.numerator ∈ named (allowed side k)
unfolding open_signs
zero-allowed L k e = strict-kind (λ k. zero_fraction.numerator ∈ named (allowed L k)) k e (by_sign nought refl refl) (by_sign nought refl refl)
zero-allowed U k e = strict-kind (λ k. zero_fraction.numerator ∈ named (allowed U k)) k e (by_sign nought refl refl) (by_sign nought refl refl)

-- ---- Of two t, some monomial is strict at the one or at the other.

at_one : {X : Type 0} (xs : List Row) (t u : Fraction) → strict xs ≡ true → gap t u ∈ 1 → (StrictAt xs t → X) → (StrictAt xs u → X) → X
unfolding strict
at_one [] t u e g f h = absurd (false≢true e)
at_one (x ∷ xs) t u e g f h = let used = not (is_zero x.a && is_zero x.b) in
    or_cases (is_strict x.s && used) (strict xs) e
    (λ k. let s = and_first (is_strict x.s) used k in let n = not-true (is_zero x.a && is_zero x.b) (and_second (is_strict x.s) used k) in
    zero_or_not (combined t x.a x.b)
    (λ y. zero_or_not (combined u x.a x.b) (λ z. never_both (both_zero x.a x.b t u g y z) n) (λ z. h (this_row s z)))
    (λ y. f (this_row s y)))
    (λ k. at_one xs t u k g (λ s. f (later_row s)) (λ s. h (later_row s)))

-- What is past a t above 0 is above 0; what is before one below 0 is below 0.
further : (t u : Fraction) → gap t u ∈ 1 → t.numerator ∈ 1 → u.numerator ∈ 1
further t u g h = (after-zero {o = strictly} u).0 (through {j = strictly} ((after-zero {o = strictly} t).1 h) (apart g))

before : (t u : Fraction) → gap t u ∈ 1 → u.numerator ∈ 4 → t.numerator ∈ 4
unfolding open_signs
before t u g h = by_equal (sym (neg_ℤ-neg_ℤ t.numerator))
    (∈-negation (further (opposite u) (opposite t) (by_equal (gap-opposite t u) g) (∈-negation h)))

module _ (side : Side) (k : Kind) (rows : List Row) where
  -- The interior brings two t of the sign that was asked for.
  two : strict rows ≡ true → {u w : Fraction} → gap u w ∈ 1 → Holds side rows u → Holds side rows w
      → u.numerator ∈ named (allowed side k) → w.numerator ∈ named (allowed side k) → Strictly side k rows
  two e {u} {w} g hu hw su sw = at_one rows u w e g
      (λ s. record { t = u; held = hu; sign = su; strict = by_row s }) (λ s. record { t = w; held = hw; sign = sw; strict = by_row s })

module _ (side : Side) (rows : List Row) (e : strict rows ≡ true) (t : Fraction) (i : Interior (Holds side rows) t) where
  lo : gap i.smaller t ∈ 1
  lo = (is_below i.smaller t).0 i.smaller_below

  hi : gap t i.larger ∈ 1
  hi = (is_below t i.larger).0 i.larger_above

  upward : (k : Kind) → t.numerator ∈ 1 → inside 1 (named (allowed side k)) ≡ true → Strictly side k rows
  upward k h ok = two side k rows e hi i.held i.larger_held (wider h ok) (wider (further t i.larger hi h) ok)

  downward : (k : Kind) → t.numerator ∈ 4 → inside 4 (named (allowed side k)) ≡ true → Strictly side k rows
  downward k h ok = two side k rows e lo i.smaller_held i.held (wider (before i.smaller t lo h) ok) (wider h ok)

  anyhow : (k : Kind) → inside 7 (named (allowed side k)) ≡ true → Strictly side k rows
  anyhow k ok = two side k rows e lo i.smaller_held i.held (wider (∈-full i.smaller.numerator) ok) (wider (∈-full t.numerator) ok)

none : {X : Type 0} {z : ℤ} → z ∈ 0 → X
unfolding open_signs
none h = clash h h refl

by-inner : (side : Side) (k : Kind) (rows : List Row) → strict rows ≡ true → (t : Fraction) → Interior (Holds side rows) t → t.numerator ∈ named (past side k)
    → Strictly side k rows
unfolding open_signs
by-inner L ∅ rows e t i h = none h
by-inner L >0 rows e t i h = downward L rows e t i >0 h refl
by-inner L =0 rows e t i h = anyhow L rows e t i =0 refl
by-inner L ≥0 rows e t i h = downward L rows e t i ≥0 h refl
by-inner L <0 rows e t i h = upward L rows e t i <0 h refl
by-inner L ≠0 rows e t i h = none h
by-inner L ≤0 rows e t i h = upward L rows e t i ≤0 h refl
by-inner L any rows e t i h = none h
by-inner U ∅ rows e t i h = none h
by-inner U >0 rows e t i h = upward U rows e t i >0 h refl
by-inner U =0 rows e t i h = anyhow U rows e t i =0 refl
by-inner U ≥0 rows e t i h = upward U rows e t i ≥0 h refl
by-inner U <0 rows e t i h = downward U rows e t i <0 h refl
by-inner U ≠0 rows e t i h = none h
by-inner U ≤0 rows e t i h = downward U rows e t i ≤0 h refl
by-inner U any rows e t i h = none h

-- ---- The law.

-- A strict finding of 01 is a strict finding now.
pub strictly-kept : (side : Side) (k : Kind) (rows : List Row) → Found01 side k rows strictly → Strictly side k rows
strictly-kept side k rows (by_sign_of_q e t h s) =
    record { t = t; held = h; sign = wider s (past-allowed side k); strict = by_q e (wider s (past-other side k e)) }
strictly-kept side k rows (by_interior e t i s) = by-inner side k rows e t i s

-- And a weak one a weak one.
pub weakly-kept : (side : Side) (k : Kind) (rows : List Row) → Found01 side k rows weakly → Weakly side k rows
weakly-kept side k rows (by_zero e h) = record { t = zero_fraction; held = h; sign = zero-allowed side k e }
weakly-kept side k rows (by_any t h s) = record { t = t; held = h; sign = s }
