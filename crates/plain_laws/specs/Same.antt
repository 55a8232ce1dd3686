-- Law plain-same: the plain engine and the book's intervals give the same finding, for all p, q, sets and boards.
-- Both are held to the words of 01 and 02, #104: some t, and what is asked of it (deduction_laws/FractionSets).
use Rattle.std.specs.Prelude.{◌≡◌, refl, Bool, false, List, [], ◌∷◌, ◌↔◌, ℕ, zero, suc, eqb, ℤ, pos, negsuc, neg_ℤ, ◌+ℤ◌, ◌-ℤ◌, ◌*ℤ◌}
use Rattle.std.proofs.Math.Path.{sym, ap, ap₂}
use Rattle.std.proofs.Common.{◌∙◌, subst}
use Rattle.std.proofs.Math.Bool.{true, ◌&&◌, ◌||◌, and-eq-true_iff}
use Rattle.std.proofs.lemmas.Bool.{false≢true}
use mathlib.Core.List.Memᴰ.{head as here}
use mathlib.Core.List.Memᴰ.{tail as later}
use mathlib.Core.List.{Memᴰ as Member}
use Rattle.std.specs.Int.Signed.{non_neg, le_z}
use Rattle.whole.specs.Differences.{order-by-difference}
use Rattle.whole.specs.Solver.{#, con, ◌:+◌, ◌:-◌, ◌:*◌, neg, solve}
use Rattle.rules.specs.Signs.{Sign, sign_of, has, SignSet, empty, Kind, ∅, >0, =0, ≥0, <0, ≠0, ≤0, any, kind, named, mirror, intersect, open_signs}
use Rattle.rules.specs.Polynomial.{Polynomial, Atom, Board}
use Rattle.rules.specs.Deduce.{Fraction, denominator, Row, rows, is_strict, found, has_t, found_in, finding_of, any_empty, unless_empty, deduce}
use Rattle.rules.specs.Plain.{listed, filled, values, of_orders, sign_at, asks_l, asks_u, passes, is_not0, strict_at, wanted_l, wanted_u, weak_at, strictly_at, some}
use Rattle.rules.specs.Plain.{zero_fraction, plain_found, plain_finding_of, plain_deduce}
use Rattle.sign_laws.specs.Booleans.{both_ways, and_intro, and_first, and_second, or-first, or-second, or_cases}
use Rattle.sign_laws.specs.Whole.{◌∈◌}
use Rattle.deduction_laws.specs.Fractions.{combined, gap-from-zero}
use Rattle.deduction_laws.specs.FractionSets.{Side, L, U, asked, Holds, no_rows, one_row, allowed, StrictAt, this_row, later_row, Strict, by_q, by_row, Weakly, Strictly, interval}
use Rattle.deduction_laws.specs.Intervals.{all-rows}
use Rattle.deduction_laws.specs.Exact.{strict_test, weakly-found, strictly-found}
use Rattle.plain_laws.specs.StandIn.{Twin, StandIn, stand-in}
use Rattle.plain_laws.specs.Listed.{Rising, from, listed-rising, zero-listed, listed-covers}

-- ---- Comparing the products gives the sign of a + tb.

of-orders : (z : ℤ) → of_orders (non_neg (neg_ℤ z)) (non_neg z) ≡ sign_of z
unfolding of_orders open_signs
of-orders (pos zero) = refl
of-orders (pos (suc n)) = refl
of-orders (negsuc n) = refl

pub sign-at : (t : Fraction) (a b : ℤ) → sign_at t a b ≡ sign_of (combined t a b)
unfolding sign_at
sign-at t a b =
    let c = t.numerator in
    let d = denominator t in
    let down : (neg_ℤ c *ℤ b) -ℤ (a *ℤ d) ≡ neg_ℤ (combined t a b) = solve (a ∷ b ∷ c ∷ d ∷ []) (neg (# 2) :* # 1 :- # 0 :* # 3) (neg (# 0 :* # 3 :+ # 2 :* # 1)) tt in
    let up : (a *ℤ d) -ℤ (neg_ℤ c *ℤ b) ≡ combined t a b = solve (a ∷ b ∷ c ∷ d ∷ []) (# 0 :* # 3 :- neg (# 2) :* # 1) (# 0 :* # 3 :+ # 2 :* # 1) tt in
    ap₂ of_orders (order-by-difference (a *ℤ d) (neg_ℤ c *ℤ b) ∙ ap non_neg down) (order-by-difference (neg_ℤ c *ℤ b) (a *ℤ d) ∙ ap non_neg up) ∙ of-orders (combined t a b)

-- ---- The two sides: what is asked of a + tb, and of t.

abbrev pub asks : Side → Kind → SignSet
asks L = asks_l
asks U = asks_u

abbrev wanted : Side → Kind → SignSet
wanted L = wanted_l
wanted U = wanted_u

pub asks-as : (side : Side) (k : Kind) → asks side k ≡ named (asked side k)
unfolding asks_l asks_u open_signs
asks-as L ∅ = refl
asks-as L >0 = refl
asks-as L =0 = refl
asks-as L ≥0 = refl
asks-as L <0 = refl
asks-as L ≠0 = refl
asks-as L ≤0 = refl
asks-as L any = refl
asks-as U ∅ = refl
asks-as U >0 = refl
asks-as U =0 = refl
asks-as U ≥0 = refl
asks-as U <0 = refl
asks-as U ≠0 = refl
asks-as U ≤0 = refl
asks-as U any = refl

wanted-as : (side : Side) (k : Kind) → wanted side k ≡ named (allowed side k)
unfolding wanted_l wanted_u open_signs
wanted-as L ∅ = refl
wanted-as L >0 = refl
wanted-as L =0 = refl
wanted-as L ≥0 = refl
wanted-as L <0 = refl
wanted-as L ≠0 = refl
wanted-as L ≤0 = refl
wanted-as L any = refl
wanted-as U ∅ = refl
wanted-as U >0 = refl
wanted-as U =0 = refl
wanted-as U ≥0 = refl
wanted-as U <0 = refl
wanted-as U ≠0 = refl
wanted-as U ≤0 = refl
wanted-as U any = refl

-- ---- The tests at one value, in the documents' words.

passes-holds : (side : Side) (t : Fraction) (xs : List Row) → (passes (asks side) t xs ≡ true) ↔ Holds side xs t
unfolding passes
passes-holds side t [] = (λ e. no_rows, λ h. refl)
passes-holds side t (x ∷ xs) =
    let same : has (sign_at t x.a x.b) (asks side x.s) ≡ has (sign_of (combined t x.a x.b)) (named (asked side x.s))
    = ap₂ has (sign-at t x.a x.b) (asks-as side x.s) in
    let test = and-eq-true_iff (has (sign_at t x.a x.b) (asks side x.s)) (passes (asks side) t xs) in (
      λ e. let k = test.0 e in one_row (record { sign = record { is = sym same ∙ k.0 } }) ((passes-holds side t xs).0 k.1),
      λ h. let k = all-rows h in test.1 (same ∙ k.0.sign.is, (passes-holds side t xs).1 k.1),
    )

strict-holds : (t : Fraction) (xs : List Row) → (strict_at t xs ≡ true) ↔ StrictAt xs t
unfolding strict_at is_not0
strict-holds t [] = (λ e. absurd (false≢true e), λ h. elim h [ ])
strict-holds t (x ∷ xs) =
    let same : is_not0 (sign_at t x.a x.b) ≡ has (sign_of (combined t x.a x.b)) 5 = ap is_not0 (sign-at t x.a x.b) in (
      λ e. or_cases (is_strict x.s && is_not0 (sign_at t x.a x.b)) (strict_at t xs) e
          (λ h. this_row (and_first (is_strict x.s) _ h) (record { sign = record { is = sym same ∙ and_second (is_strict x.s) _ h } }))
          (λ h. later_row ((strict-holds t xs).0 h)),
      λ h. by (strict-holds t xs).1 same h,
    )
  where
    by : (StrictAt xs t → strict_at t xs ≡ true) → is_not0 (sign_at t x.a x.b) ≡ has (sign_of (combined t x.a x.b)) 5 → StrictAt (x ∷ xs) t
        → (is_strict x.s && is_not0 (sign_at t x.a x.b)) || strict_at t xs ≡ true
    by more same (this_row e h) = or-first (strict_at t xs) (and_intro e (same ∙ h.sign.is))
    by more same (later_row h) = or-second (is_strict x.s && is_not0 (sign_at t x.a x.b)) (more h)

-- ---- Values that lie alike pass the same tests.

same-passes : (asks : Kind → SignSet) (xs : List Row) (t u : Fraction) → ((x : Row) → Member x xs → sign_at t x.a x.b ≡ sign_at u x.a x.b)
    → passes asks t xs ≡ passes asks u xs
unfolding passes
same-passes asks [] t u h = refl
same-passes asks (x ∷ xs) t u h = ap₂ ◌&&◌ (ap (λ (s : Sign). has s (asks x.s)) (h x (here refl))) (same-passes asks xs t u (λ y m. h y (later m)))

same-strict : (xs : List Row) (t u : Fraction) → ((x : Row) → Member x xs → sign_at t x.a x.b ≡ sign_at u x.a x.b) → strict_at t xs ≡ strict_at u xs
unfolding strict_at
same-strict [] t u h = refl
same-strict (x ∷ xs) t u h = ap₂ ◌||◌ (ap (λ (s : Sign). is_strict x.s && is_not0 s) (h x (here refl))) (same-strict xs t u (λ y m. h y (later m)))

-- t and u have the same sign, and give each a + tb the same sign.
pub record Alike (xs : List Row) (t u : Fraction) : Type 0 where
  pub signs : (x : Row) → Member x xs → sign_of (combined t x.a x.b) ≡ sign_of (combined u x.a x.b)
  pub own : sign_of t.numerator ≡ sign_of u.numerator

module _ (xs : List Row) (t u : Fraction) (w : Alike xs t u) where
  signs-alike : (x : Row) → Member x xs → sign_at t x.a x.b ≡ sign_at u x.a x.b
  signs-alike x m = sign-at t x.a x.b ∙ w.signs x m ∙ sym (sign-at u x.a x.b)

  same-weak : (set : SignSet) (asks : Kind → SignSet) → weak_at set asks xs t ≡ weak_at set asks xs u
  unfolding weak_at
  same-weak set asks = ap₂ ◌&&◌ (ap (λ (s : Sign). has s set) w.own) (same-passes asks xs t u signs-alike)

  same-strictly : (k : Kind) (set : SignSet) (asks : Kind → SignSet) → strictly_at k set asks xs t ≡ strictly_at k set asks xs u
  unfolding strictly_at
  same-strictly k set asks = ap₂ ◌&&◌ (same-weak set asks)
      (ap₂ ◌||◌ (ap (λ (s : Sign). is_strict k && is_not0 s) w.own) (same-strict xs t u signs-alike))

-- ---- Some value passes exactly if some t does.

some-by : (f : Fraction → Bool) {t : Fraction} {ts : List Fraction} → Member t ts → f t ≡ true → some f ts ≡ true
unfolding some
some-by f {t = t} {ts = []} x5 h = elim x5 [ ]
some-by f {ts = u ∷ ts} (here e) h = or-first (some f ts) (subst (λ (t : Fraction). f t ≡ true) e h)
some-by f {ts = u ∷ ts} (later m) h = or-second (f u) (some-by f m h)

some_of : (f : Fraction → Bool) (ts : List Fraction) → some f ts ≡ true → (t : Fraction) × (f t ≡ true)
unfolding some
some_of f [] e = absurd (false≢true e)
some_of f (t ∷ ts) e = or_cases (f t) (some f ts) e (λ h. (t, h)) (λ h. some_of f ts h)

-- Values are enough, if each t has one among them that is alike.
pub record Enough (xs : List Row) (vs : List Fraction) : Type 0 where
  pub for : (t : Fraction) → (u : Fraction) × Member u vs × Alike xs t u

by-enough : {xs : List Row} {vs : List Fraction} → Enough xs vs → (f : Fraction → Bool) → ((t u : Fraction) → Alike xs t u → f t ≡ f u) → (t : Fraction) → f t ≡ true → some f vs ≡ true
by-enough e f same t h = let (u, m, w) = e.for t in some-by f m (sym (same t u w) ∙ h)

module _ (side : Side) (k : Kind) (xs : List Row) {vs : List Fraction} (enough : Enough xs vs) where
  abbrev weak_test : Fraction → Bool
  weak_test t = weak_at (wanted side k) (asks side) xs t

  abbrev strictly_test : Fraction → Bool
  strictly_test t = strictly_at k (wanted side k) (asks side) xs t

  weak-words : (t : Fraction) → (weak_test t ≡ true) ↔ (Holds side xs t × (t.numerator ∈ named (allowed side k)))
  unfolding weak_at
  weak-words t =
      let sign : has (sign_of t.numerator) (wanted side k) ≡ has (sign_of t.numerator) (named (allowed side k)) = ap (has (sign_of t.numerator)) (wanted-as side k) in
      let test = and-eq-true_iff (has (sign_of t.numerator) (wanted side k)) (passes (asks side) t xs) in (
        λ e. let j = test.0 e in ((passes-holds side t xs).0 j.1, record { sign = record { is = sym sign ∙ j.0 } }),
        λ (h, s). test.1 (sign ∙ s.sign.is, (passes-holds side t xs).1 h),
      )

  strict-words : (t : Fraction) → ((is_strict k && is_not0 (sign_of t.numerator)) || strict_at t xs ≡ true) ↔ Strict k xs t
  unfolding is_not0
  strict-words t = (
    λ e. or_cases (is_strict k && is_not0 (sign_of t.numerator)) (strict_at t xs) e
        (λ h. by_q (and_first (is_strict k) _ h) (record { sign = record { is = and_second (is_strict k) _ h } }))
        (λ h. by_row ((strict-holds t xs).0 h)),
    back,
  )
    where
      back : Strict k xs t → (is_strict k && is_not0 (sign_of t.numerator)) || strict_at t xs ≡ true
      back (by_q e h) = or-first (strict_at t xs) (and_intro e h.sign.is)
      back (by_row h) = or-second (is_strict k && is_not0 (sign_of t.numerator)) ((strict-holds t xs).1 h)

  -- p ≥ 0
  pub weakly-some : (some weak_test vs ≡ true) ↔ Weakly side k xs
  weakly-some = (
    λ e. let (t, h) = some_of weak_test vs e in let (held, sign) = (weak-words t).0 h in record { t = t; held = held; sign = sign },
    λ w. by-enough enough weak_test (λ t u h. same-weak xs t u h (wanted side k) (asks side)) w.t ((weak-words w.t).1 (w.held, w.sign)),
  )

  -- p > 0
  pub strictly-some : (some strictly_test vs ≡ true) ↔ Strictly side k xs
  unfolding strictly_at
  strictly-some = (
    λ e. let (t, h) = some_of strictly_test vs e in
        let (held, sign) = (weak-words t).0 (and_first (weak_test t) _ h) in
        record { t = t; held = held; sign = sign; strict = (strict-words t).0 (and_second (weak_test t) _ h) },
    λ w. by-enough enough strictly_test (λ t u h. same-strictly xs t u h k (wanted side k) (asks side)) w.t
        (and_intro ((weak-words w.t).1 (w.held, w.sign)) ((strict-words w.t).1 w.strict)),
  )

  same-found : found (some strictly_test vs) (some weak_test vs) ≡ found_in k (interval side k xs) xs
  unfolding found_in
  same-found = ap₂ found
      (both_ways (some strictly_test vs) (strict_test (interval side k xs) k xs) (λ e. (strictly-found side k xs).1 (strictly-some.0 e)) (λ e. strictly-some.1 ((strictly-found side k xs).0 e)))
      (both_ways (some weak_test vs) (has_t (interval side k xs)) (λ e. (weakly-found side k xs).1 (weakly-some.0 e)) (λ e. weakly-some.1 ((weakly-found side k xs).0 e)))

-- What is found from these values, whichever they are, is the finding.
abbrev pub found_over : Kind → SignSet → (Kind → SignSet) → List Row → List Fraction → SignSet
found_over k wanted asks xs vs = found (some (strictly_at k wanted asks xs) vs) (some (weak_at wanted asks xs) vs)

pub same-finding : (k : Kind) (xs : List Row) {vs : List Fraction} → Enough xs vs
    → intersect (found_over k (wanted_l k) asks_l xs vs) (mirror (found_over k (wanted_u k) asks_u xs vs)) ≡ finding_of k xs
unfolding finding_of
same-finding k xs e = ap₂ (λ (x y : SignSet). intersect x (mirror y)) (same-found L k xs e) (same-found U k xs e)

-- The listed values, with those between, below and above, are enough.
pub values-enough : (xs : List Row) → Enough xs (values xs)
unfolding values
values-enough xs = record { for = λ t. by (listed xs) (listed-rising xs) (λ t u w. alike t u w) t }
  where
    alike : (t u : Fraction) → Twin (listed xs) t u → Alike xs t u
    alike t u w = record {
      signs = λ x m. (listed-covers xs x m).same t u w;
      own = ap sign_of (sym (gap-from-zero t)) ∙ w.alike zero_fraction (zero-listed xs) ∙ ap sign_of (gap-from-zero u);
    }

    by : (M : List Fraction) → Rising M → ((t u : Fraction) → Twin M t u → Alike xs t u) → (t : Fraction) → (u : Fraction) × Member u (filled M) × Alike xs t u
    by [] rising same t = elim rising [ ]
    by (x ∷ us) (from k) same t = let s = stand-in x us k t in (s.value, s.listed, same t s.value s.twin)

-- "Both engines are proved to give the same finding for all p, q and sets".
pub plain-same : (board : Board) (p : Polynomial) (q : Atom) → plain_deduce board p q ≡ deduce board p q
unfolding plain_deduce deduce plain_finding_of plain_found
plain-same board p q = let xs = rows board p q.polynomial in
    ap (unless_empty (eqb q.set empty || any_empty board)) (same-finding (kind q.set) xs (values-enough xs))
