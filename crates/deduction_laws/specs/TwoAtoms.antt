-- "Two atoms at once" (02, #111) is right: what each try finds of p holds, for any values of the monomials whose signs fit the board.
-- p is p + u·q1 + v·q2 less u·q1 and v·q2, and its sign is known from theirs.
use Rattle.std.specs.Prelude.{◌≡◌, Bool, cond, ◌&&◌, ◌||◌, ℕ, eqb, ℤ, pos, neg_ℤ, ◌+ℤ◌, ◌*ℤ◌}
use Rattle.std.proofs.Math.Path.{refl, sym, ap, ap₂}
use Rattle.std.proofs.Common.{◌∙◌, subst}
use Rattle.std.proofs.Math.Bool.{true, false}
use Rattle.std.proofs.lemmas.Bool.{false≢true}
use mathlib.Core.List.{List, [], ◌∷◌, ◌++◌}
use Rattle.std.proofs.Math.Option.{some, some-injective, none-ne-some}
use Rattle.std.proofs.Math.IntN.{neg_ℤ-neg_ℤ}
use Rattle.std.specs.Int.Signed.{non_neg}
use Rattle.whole.specs.Solver.{#, con, ◌:+◌, ◌:*◌, neg, solve}
use Rattle.rules.specs.Signs.{negative, positive, SignSet, Kind, ∅, >0, =0, ≥0, <0, ≠0, ≤0, any, kind, named, sum, mirror, intersect, inside, open_signs}
use Rattle.rules.specs.Polynomial.{Term, Polynomial, Atom, Board, monomial_sign, by_terms}
use Rattle.rules.specs.Deduce.{Row, rows, is_strict, is_zero, found}
use Rattle.rules.specs.TwoAtoms.{unless_zero, added_rows, plus_times, non_positive, non_negative, never_positive, never_negative, pair_found, pair_mirrored, tried, try, factors}
use Rattle.rules.specs.TwoAtoms.{with_each, tries_with, tries, cut_or, first_cut, cut_by_all}
use Rattle.rules.specs.Meaning.{value_by}
use Rattle.sign_laws.specs.Booleans.{and_first, and_second, or_cases}
use Rattle.sign_laws.specs.Lists.{Every, every_none, every, every_append}
use Rattle.sign_laws.specs.Whole.{◌∈◌, ∈-sum, ∈-product, ∈-negation, ∈-intersect, ∈-full, by_sign, by_equal, wider}
use Rattle.deduction_laws.specs.Fractions.{is-nought, not_negative, is_negative}
use Rattle.deduction_laws.specs.Exact.{is-zero, strict-kind}
use Rattle.deduction_laws.specs.Rows.{total, total_a, total_b, in-named}
use Rattle.deduction_laws.specs.Terms.{terms-sound}

-- ---- The value of p + u·q.

module _ (v : ℕ → ℤ) where
  unless-value : (b : Bool) (t : Term) (rest : Polynomial) → is_zero t.coefficient ≡ b
      → value_by v (unless_zero b t rest) ≡ t.coefficient *ℤ v t.monomial +ℤ value_by v rest
  unfolding unless_zero value_by
  unless-value true t rest e = sym (ap (λ (c : ℤ). c *ℤ v t.monomial +ℤ value_by v rest) (is-nought t.coefficient ((is-zero t.coefficient).0 e))
      ∙ solve (v t.monomial ∷ value_by v rest ∷ []) (con (pos 0) :* # 0 :+ # 1) (# 1) tt)
  unless-value false t rest e = refl

  added-value : (u : ℤ) (xs : List Row) → value_by v (added_rows u xs) ≡ total (λ x. x.a) v xs +ℤ u *ℤ total (λ x. x.b) v xs
  unfolding added_rows total value_by
  added-value u [] = sym (solve (u ∷ []) (con (pos 0) :+ # 0 :* con (pos 0)) (con (pos 0)) tt)
  added-value u (x ∷ xs) =
      let a = total (λ x. x.a) v xs in
      let b = total (λ x. x.b) v xs in
      let m = v x.monomial in
      unless-value _ _ (added_rows u xs) refl ∙ ap (λ (z : ℤ). (x.a +ℤ u *ℤ x.b) *ℤ m +ℤ z) (added-value u xs)
      ∙ solve (x.a ∷ x.b ∷ u ∷ m ∷ a ∷ b ∷ []) ((# 0 :+ # 2 :* # 1) :* # 3 :+ (# 4 :+ # 2 :* # 5)) (# 0 :* # 3 :+ # 4 :+ # 2 :* (# 1 :* # 3 :+ # 5)) tt

  -- It is the value of p and u times that of q.
  pub plus-value : (p : Polynomial) (u : ℤ) (q : Polynomial) → value_by v (plus_times p u q) ≡ value_by v p +ℤ u *ℤ value_by v q
  unfolding plus_times
  plus-value p u q = added-value u (rows [] p q) ∙ ap₂ (λ (x y : ℤ). x +ℤ u *ℤ y) (total_a v [] p q) (total_b v [] p q)

-- ---- The two tests, for whole numbers.

given_back : (p a b : ℤ) → p ≡ p +ℤ a +ℤ b +ℤ neg_ℤ a +ℤ neg_ℤ b
given_back p a b = solve (p ∷ a ∷ b ∷ []) (# 0) (# 0 :+ # 1 :+ # 2 :+ neg (# 1) :+ neg (# 2)) tt

-- The one number or the other is not 0.
data OneOf (a b : ℤ) : Type 0 where
  the_first : a ∈ 5 → OneOf a b
  the_second : b ∈ 5 → OneOf a b

turn_one : {a b : ℤ} → OneOf a b → OneOf (neg_ℤ a) (neg_ℤ b)
unfolding open_signs
turn_one (the_first h) = the_first (∈-negation h)
turn_one (the_second h) = the_second (∈-negation h)

found-by : (p : ℤ) (x y : Bool) → (x ≡ true → p ∈ 1) → (y ≡ true → p ∈ 3) → p ∈ found x y
unfolding found
found-by p true y h k = h refl
found-by p false true h k = k refl
found-by p false false h k = ∈-full p

-- u·q1 and v·q2 are never positive.
module _ (p a b : ℤ) {s : SignSet} (ha : a ∈ 6) (hb : b ∈ 6) (hs : p +ℤ a +ℤ b ∈ s) (st : Bool) (strict : st ≡ true → OneOf a b) where
  less : {x y z : SignSet} → p +ℤ a +ℤ b ∈ x → a ∈ y → b ∈ z → p ∈ sum (sum x (mirror y)) (mirror z)
  less h i j = by_equal (given_back p a b) (∈-sum (∈-sum h (∈-negation i)) (∈-negation j))

  by_one : inside s 3 ≡ true → OneOf a b → p ∈ 1
  unfolding open_signs
  by_one k (the_first n) = less {x = 3} {y = 4} {z = 6} (wider hs k) (∈-intersect {a = 6} {b = 5} ha n) hb
  by_one k (the_second n) = less {x = 3} {y = 6} {z = 4} (wider hs k) ha (∈-intersect {a = 6} {b = 5} hb n)

  one-test : p ∈ pair_found s st
  unfolding pair_found open_signs
  one-test = found-by p (inside s 3 && (inside s 1 || st)) (inside s 3)
      (λ e. or_cases (inside s 1) st (and_second (inside s 3) _ e) (λ n. less {x = 1} {y = 6} {z = 6} (wider hs n) ha hb)
      (λ n. by_one (and_first (inside s 3) _ e) (strict n)))
      (λ e. less {x = 3} {y = 6} {z = 6} (wider hs e) ha hb)

negated : (p a b : ℤ) → neg_ℤ p +ℤ neg_ℤ a +ℤ neg_ℤ b ≡ neg_ℤ (p +ℤ a +ℤ b)
negated p a b = solve (p ∷ a ∷ b ∷ []) (neg (# 0) :+ neg (# 1) :+ neg (# 2)) (neg (# 0 :+ # 1 :+ # 2)) tt

-- Never negative.
mirrored : (p a b : ℤ) {s : SignSet} → a ∈ 3 → b ∈ 3 → p +ℤ a +ℤ b ∈ s → (st : Bool) → (st ≡ true → OneOf a b) → p ∈ pair_mirrored s st
unfolding pair_mirrored open_signs
mirrored p a b ha hb hs st strict = by_equal (sym (neg_ℤ-neg_ℤ p)) (∈-negation (one-test (neg_ℤ p) (neg_ℤ a) (neg_ℤ b) (∈-negation ha) (∈-negation hb)
    (by_equal (negated p a b) (∈-negation hs)) st (λ e. turn_one (strict e))))

both-tests : (p a b : ℤ) (s : SignSet) (x y : Bool) → (x ≡ true → (a ∈ 6) × (b ∈ 6)) → (y ≡ true → (a ∈ 3) × (b ∈ 3)) → p +ℤ a +ℤ b ∈ s → (st : Bool)
    → (st ≡ true → OneOf a b) → Every (λ (f : SignSet). p ∈ f) (tried x y s st)
unfolding tried
both-tests p a b s false false up down hs st strict = every_none
both-tests p a b s true false up down hs st strict = every (one-test p a b (up refl).0 (up refl).1 hs st strict) every_none
both-tests p a b s false true up down hs st strict = every (mirrored p a b (down refl).0 (down refl).1 hs st strict) every_none
both-tests p a b s true true up down hs st strict =
    every (∈-intersect (one-test p a b (up refl).0 (up refl).1 hs st strict) (mirrored p a b (down refl).0 (down refl).1 hs st strict)) every_none

-- ---- The factors.

non-positive : (k : Kind) {z : ℤ} → non_positive k ≡ true → z ∈ named k → z ∈ 6
unfolding non_positive open_signs
non-positive <0 e h = wider h refl
non-positive ≤0 e h = h
non-positive =0 e h = wider h refl
non-positive >0 e h = absurd (false≢true e)
non-positive ≥0 e h = absurd (false≢true e)
non-positive ≠0 e h = absurd (false≢true e)
non-positive any e h = absurd (false≢true e)
non-positive ∅ e h = absurd (false≢true e)

non-negative : (k : Kind) {z : ℤ} → non_negative k ≡ true → z ∈ named k → z ∈ 3
unfolding non_negative open_signs
non-negative <0 e h = absurd (false≢true e)
non-negative ≤0 e h = absurd (false≢true e)
non-negative =0 e h = wider h refl
non-negative >0 e h = wider h refl
non-negative ≥0 e h = h
non-negative ≠0 e h = absurd (false≢true e)
non-negative any e h = absurd (false≢true e)
non-negative ∅ e h = absurd (false≢true e)

-- u·q is never positive, or never negative, where the book says so.
never-positive : (u : ℤ) (s : SignSet) {z : ℤ} → never_positive u (kind s) ≡ true → z ∈ s → u *ℤ z ∈ 6
unfolding never_positive open_signs
never-positive u s {z} e h = by (non_neg u) (not_negative u).0 (is_negative u).0 e
  where
    by : (b : Bool) → (b ≡ true → u ∈ 3) → (b ≡ false → u ∈ 4) → cond b (non_positive (kind s)) (non_negative (kind s)) ≡ true → u *ℤ z ∈ 6
    by true f g e = ∈-product {a = 3} {b = 6} (f refl) (non-positive (kind s) e (in-named s h))
    by false f g e = ∈-product {a = 4} {b = 3} (g refl) (non-negative (kind s) e (in-named s h))

never-negative : (u : ℤ) (s : SignSet) {z : ℤ} → never_negative u (kind s) ≡ true → z ∈ s → u *ℤ z ∈ 3
unfolding never_negative open_signs
never-negative u s {z} e h = by (non_neg u) (not_negative u).0 (is_negative u).0 e
  where
    by : (b : Bool) → (b ≡ true → u ∈ 3) → (b ≡ false → u ∈ 4) → cond b (non_negative (kind s)) (non_positive (kind s)) ≡ true → u *ℤ z ∈ 3
    by true f g e = ∈-product {a = 3} {b = 3} (f refl) (non-negative (kind s) e (in-named s h))
    by false f g e = ∈-product {a = 4} {b = 6} (g refl) (non-positive (kind s) e (in-named s h))

-- ---- A try.

-- No factor is 0.
factors-other : Every (λ (u : ℤ). u ∈ 5) factors
unfolding factors open_signs
factors-other = every (by_sign negative refl refl) (every (by_sign negative refl refl) (every (by_sign negative refl refl) (every (by_sign negative refl refl)
    (every (by_sign positive refl refl) (every (by_sign positive refl refl) (every (by_sign positive refl refl) (every (by_sign positive refl refl) every_none)))))))

-- A number whose set is < or > is not 0.
strict-other : (s : SignSet) {z : ℤ} → is_strict (kind s) ≡ true → z ∈ s → z ∈ 5
unfolding open_signs
strict-other s {z} e h = strict-kind (λ k. z ∈ named k → z ∈ 5) (kind s) e (λ k. wider k refl) (λ k. wider k refl) (in-named s h)

module _ (v : ℕ → ℤ) (board : Board) (fits : (m : ℕ) → v m ∈ monomial_sign board m) where
  -- The atom holds.
  abbrev Held : Atom → Type 0
  Held q = value_by v q.polynomial ∈ q.set

  abbrev Right : Polynomial → List SignSet → Type 0
  Right p l = Every (λ (f : SignSet). value_by v p ∈ f) l

  -- What one try finds of p holds.
  pub try-sound : (p : Polynomial) (q1 q2 : Atom) → Held q1 → Held q2 → {u w : ℤ} → u ∈ 5 → w ∈ 5 → Right p (try board p q1 q2 u w)
  unfolding try open_signs
  try-sound p q1 q2 h1 h2 {u} {w} hu hw =
      let x = value_by v q1.polynomial in
      let y = value_by v q2.polynomial in
      let k1 = kind q1.set in
      let k2 = kind q2.set in
      both-tests (value_by v p) (u *ℤ x) (w *ℤ y) (by_terms board (plus_times (plus_times p u q1.polynomial) w q2.polynomial))
      (never_positive u k1 && never_positive w k2) (never_negative u k1 && never_negative w k2)
      (λ e. (never-positive u q1.set (and_first (never_positive u k1) _ e) h1, never-positive w q2.set (and_second (never_positive u k1) _ e) h2))
      (λ e. (never-negative u q1.set (and_first (never_negative u k1) _ e) h1, never-negative w q2.set (and_second (never_negative u k1) _ e) h2))
      (by_equal (sym (plus-value v (plus_times p u q1.polynomial) w q2.polynomial
      ∙ ap (λ (z : ℤ). z +ℤ w *ℤ y) (plus-value v p u q1.polynomial))) (terms-sound v board fits (plus_times (plus_times p u q1.polynomial) w q2.polynomial)))
      (is_strict k1 || is_strict k2)
      (λ e. or_cases (is_strict k1) (is_strict k2) e (λ k. the_first (∈-product hu (strict-other q1.set k h1))) (λ k. the_second (∈-product hw (strict-other q2.set k h2))))

  -- ---- All tries.

  with-each : (f : ℤ → List SignSet) (z : ℤ) {l : List ℤ} → Every (λ (w : ℤ). w ∈ 5) l → ((w : ℤ) → w ∈ 5 → Every (λ (s : SignSet). z ∈ s) (f w))
      → Every (λ (s : SignSet). z ∈ s) (with_each f l)
  unfolding with_each
  with-each f z every_none h = every_none
  with-each f z (every {a = w} k ks) h = every_append (h w k) (with-each f z ks h)

  tries-with : (p : Polynomial) (q1 : Atom) → Held q1 → {l : List Atom} → Every Held l → Right p (tries_with board p q1 l)
  unfolding tries_with
  tries-with p q1 h every_none = every_none
  tries-with p q1 h (every {a = q2} k ks) = every_append
      (with-each (λ (u : ℤ). with_each (try board p q1 q2 u) factors) (value_by v p) factors-other
      (λ u g. with-each (try board p q1 q2 u) (value_by v p) factors-other (λ w j. try-sound p q1 q2 h k g j))) (tries-with p q1 h ks)

  -- What all tries find of p holds.
  pub tries-sound : (p : Polynomial) {l : List Atom} → Every Held l → Right p (tries board p l)
  unfolding tries
  tries-sound p every_none = every_none
  tries-sound p (every {a = q1} h hs) = every_append (tries-with p q1 h hs) (tries-sound p hs)

-- A set that holds is cut to one that holds.
pub cut-sound : {z : ℤ} {s : SignSet} → z ∈ s → {l : List SignSet} → Every (λ (f : SignSet). z ∈ f) l → z ∈ cut_by_all s l
unfolding cut_by_all
cut-sound h every_none = h
cut-sound {z = z} {s = s} h (every {a = a} {l = l} k ks) = cut-sound {z = z} {s = intersect s a} (∈-intersect h k) ks

-- And so is one that is cut by the first that changes it.
pub first-sound : {z : ℤ} {s c : SignSet} → z ∈ s → {l : List SignSet} → Every (λ (f : SignSet). z ∈ f) l → first_cut s l ≡ some c → z ∈ c
unfolding first_cut cut_or
first-sound {c = c} h every_none e = absurd (none-ne-some c e)
first-sound {z} {s} {c} h (every {a = f} {l = l} k ks) e = by (eqb (intersect s f) s) (first-sound h ks) e
  where
    by : (b : Bool) → (first_cut s l ≡ some c → z ∈ c) → cut_or b (intersect s f) (first_cut s l) ≡ some c → z ∈ c
    by true later e = later e
    by false later e = subst (λ (x : SignSet). z ∈ x) (some-injective (intersect s f) c e) (∈-intersect h k)
