-- A polynomial whose set by terms lies inside ≥ (≤) has each coefficient as its monomial's set asks: a single one that has not makes the test fail.
-- So a try of two atoms (02, #111) may be given up at the first monomial whose coefficient is not as asked.
use Rattle.std.specs.Prelude.{◌≡◌, Bool, true, not, cond, ◌&&◌, ℕ, eqb, ℤ, pos, ◌+ℤ◌, ◌*ℤ◌}
use Rattle.std.proofs.Math.Path.{refl}
use Rattle.std.proofs.Common.{sym, ap, ◌∙◌, subst, eqb-true}
use Rattle.std.proofs.Math.Bool.{false}
use Rattle.std.proofs.lemmas.Bool.{false≢true}
use mathlib.Core.List.{[], ◌∷◌}
use Rattle.std.proofs.Math.IntN.{one, *ℤ-one, *ℤ-zero}
use Rattle.rules.specs.Signs.{Sign, negative, nought, positive, sign_of, SignSet, empty, Kind, ∅, >0, =0, ≥0, <0, ≠0, ≤0, any, named, kind, only, has, sum_of_signs, sum, product, inside, open_signs}
use Rattle.rules.specs.Polynomial.{Polynomial, Board, monomial_sign, by_terms_from, by_terms}
use Rattle.rules.specs.TwoAtoms.{plus_times}
use Rattle.rules.specs.Meaning.{value_by}
use Rattle.sign_laws.specs.Booleans.{and_intro, and_first, and_second, never_true}
use Rattle.sign_laws.specs.Lists.{Every}
use Rattle.sign_laws.specs.Sets.{◌In◌, in-only, in_all, in-inside, part-refl}
use Rattle.sign_laws.specs.Whole.{◌∈◌, ∈-sum, by_sign, by_equal, wider}
use Rattle.deduction_laws.specs.FractionSets.{Side, L, U, asked}
use Rattle.deduction_laws.specs.Deduction.{turned}
use Rattle.deduction_laws.specs.TwoAtoms.{plus-value}
use Rattle.removal_laws.specs.Terms.{Signed, product-signed, product-wider, monomial_sign-small, monomial_sign-signed}
use Rattle.removal_laws.specs.Kinds.{only-if, by-check, each-kind, kind-part, kind-signed}

-- Each coefficient is as its monomial's set asks.
unfoldable pub all_asked : Side → Board → Polynomial → Bool
all_asked side board [] = true
all_asked side board (t ∷ ts) = has (sign_of t.coefficient) (named (asked side (kind (monomial_sign board t.monomial)))) && all_asked side board ts

-- The sign that must not be there.
abbrev worst : Side → Sign
worst L = negative
worst U = positive

-- ---- It stays in sums.

worst-first : (side : Side) (y : Sign) → worst side In sum_of_signs (worst side) y
unfolding open_signs
worst-first L negative = record { is = refl }
worst-first L nought = record { is = refl }
worst-first L positive = record { is = refl }
worst-first U negative = record { is = refl }
worst-first U nought = record { is = refl }
worst-first U positive = record { is = refl }

worst-second : (side : Side) (x : Sign) → worst side In sum_of_signs x (worst side)
unfolding open_signs
worst-second L negative = record { is = refl }
worst-second L nought = record { is = refl }
worst-second L positive = record { is = refl }
worst-second U negative = record { is = refl }
worst-second U nought = record { is = refl }
worst-second U positive = record { is = refl }

in-first : (side : Side) {a b : SignSet} → worst side In a → Signed b → worst side In sum a b
unfolding sum
in-first side h k = in_all sum_of_signs h k.held (worst-first side k.sign)

in-second : (side : Side) {a b : SignSet} → Signed a → worst side In b → worst side In sum a b
unfolding sum
in-second side h k = in_all sum_of_signs h.held k (worst-second side h.sign)

some-sum : (x y : Sign) → Signed (sum_of_signs x y)
unfolding open_signs
some-sum negative negative = record { sign = negative; held = record { is = refl } }
some-sum negative nought = record { sign = negative; held = record { is = refl } }
some-sum negative positive = record { sign = negative; held = record { is = refl } }
some-sum nought negative = record { sign = negative; held = record { is = refl } }
some-sum nought nought = record { sign = nought; held = record { is = refl } }
some-sum nought positive = record { sign = positive; held = record { is = refl } }
some-sum positive negative = record { sign = negative; held = record { is = refl } }
some-sum positive nought = record { sign = positive; held = record { is = refl } }
some-sum positive positive = record { sign = positive; held = record { is = refl } }

sum-signed : {a b : SignSet} → Signed a → Signed b → Signed (sum a b)
unfolding sum
sum-signed h k = let s = some-sum h.sign k.sign in record { sign = s.sign; held = in_all sum_of_signs h.held k.held s.held }

-- ---- A coefficient that is not as asked brings it in.

asked-unless : (side : Side) (x : Sign) (k : Kind) → not (eqb (named k) empty) && not (has (worst side) (product (only x) (named k))) ≡ true
    → has x (named (asked side k)) ≡ true
unfolding open_signs
asked-unless side x k = by-check (not (eqb (named k) empty) && not (has (worst side) (product (only x) (named k)))) (has x (named (asked side k))) (check side x)
  where
    test : Side → Sign → Kind → Bool
    test side x k = only-if (not (eqb (named k) empty) && not (has (worst side) (product (only x) (named k)))) (has x (named (asked side k)))

    check : (side : Side) (x : Sign) → test side x k ≡ true
    check L negative = each-kind (test L negative) refl k
    check L nought = each-kind (test L nought) refl k
    check L positive = each-kind (test L positive) refl k
    check U negative = each-kind (test U negative) refl k
    check U nought = each-kind (test U nought) refl k
    check U positive = each-kind (test U positive) refl k

module _ (side : Side) {board : Board} (signed : Every Signed board) where
  part-signed : (x : Sign) (m : ℕ) → Signed (product (only x) (monomial_sign board m))
  part-signed x m = product-signed (record { sign = x; held = in-only x }) (monomial_sign-signed signed m)

  -- What is in what came before is in the whole.
  stays : (p : Polynomial) {sofar : SignSet} → worst side In sofar → worst side In by_terms_from sofar board p
  unfolding by_terms_from
  stays [] h = h
  stays (t ∷ ts) h = stays ts (in-first side h (part-signed (sign_of t.coefficient) t.monomial))

  asked-from : (p : Polynomial) {sofar : SignSet} → Signed sofar → (worst side In by_terms_from sofar board p → ⊥) → all_asked side board p ≡ true
  unfolding by_terms_from all_asked
  asked-from [] h free = refl
  asked-from (t ∷ ts) h free =
      let x = sign_of t.coefficient in
      let s = monomial_sign board t.monomial in
      let absent : has (worst side) (product (only x) (named (kind s))) ≡ false = never_true (has (worst side) (product (only x) (named (kind s))))
      (λ e. free (stays ts (in-second side h ((product-wider (part-refl (only x)) (kind-part s (monomial_sign-small board t.monomial))).each (worst side) (record { is = e }))))) in
      let filled = kind-signed s (monomial_sign-signed signed t.monomial) in
      and_intro (asked-unless side x (kind s) (rw (filled, absent))) (asked-from ts (sum-signed h (part-signed x t.monomial)) free)

not-worst : (side : Side) → worst side In turned side 3 → ⊥
unfolding open_signs
not-worst L h = absurd (false≢true h.is)
not-worst U h = absurd (false≢true h.is)

-- The law.
pub terms-asked : (side : Side) {board : Board} → Every Signed board → (p : Polynomial) → inside (by_terms board p) (turned side 3) ≡ true → all_asked side board p ≡ true
unfolding by_terms only
terms-asked side {board} signed p e = asked-from side signed p (record { sign = nought; held = in-only nought })
    (λ h. not-worst side (in-inside (by_terms board p) (turned side 3) e h))

-- ---- The coefficients of p + u·q1 + v·q2.

-- The coefficient of a monomial, 0 if it is absent: the value if that monomial is 1 and all others are 0.
abbrev pub one_at : ℕ → ℕ → ℤ
one_at m k = cond (eqb k m) (pos 1) (pos 0)

abbrev pub coefficient_at : ℕ → Polynomial → ℤ
coefficient_at m p = value_by (one_at m) p

asked-sums : (side : Side) (k : Kind) → inside (sum (named (asked side k)) (named (asked side k))) (named (asked side k)) ≡ true
unfolding open_signs
asked-sums L ∅ = refl
asked-sums L >0 = refl
asked-sums L =0 = refl
asked-sums L ≥0 = refl
asked-sums L <0 = refl
asked-sums L ≠0 = refl
asked-sums L ≤0 = refl
asked-sums L any = refl
asked-sums U ∅ = refl
asked-sums U >0 = refl
asked-sums U =0 = refl
asked-sums U ≥0 = refl
asked-sums U <0 = refl
asked-sums U ≠0 = refl
asked-sums U ≤0 = refl
asked-sums U any = refl

asked-zero : (side : Side) (k : Kind) → pos 0 ∈ named (asked side k)
unfolding open_signs
asked-zero L ∅ = by_sign nought refl refl
asked-zero L >0 = by_sign nought refl refl
asked-zero L =0 = by_sign nought refl refl
asked-zero L ≥0 = by_sign nought refl refl
asked-zero L <0 = by_sign nought refl refl
asked-zero L ≠0 = by_sign nought refl refl
asked-zero L ≤0 = by_sign nought refl refl
asked-zero L any = by_sign nought refl refl
asked-zero U ∅ = by_sign nought refl refl
asked-zero U >0 = by_sign nought refl refl
asked-zero U =0 = by_sign nought refl refl
asked-zero U ≥0 = by_sign nought refl refl
asked-zero U <0 = by_sign nought refl refl
asked-zero U ≠0 = by_sign nought refl refl
asked-zero U ≤0 = by_sign nought refl refl
asked-zero U any = by_sign nought refl refl

-- Where each coefficient is as asked, so is that of each monomial.
coefficient-asked : (side : Side) (board : Board) (p : Polynomial) → all_asked side board p ≡ true → (m : ℕ)
    → coefficient_at m p ∈ named (asked side (kind (monomial_sign board m)))
unfolding all_asked value_by one
coefficient-asked side board [] e m = asked-zero side (kind (monomial_sign board m))
coefficient-asked side board (t ∷ ts) e m =
    let own = has (sign_of t.coefficient) (named (asked side (kind (monomial_sign board t.monomial)))) in
    wider (∈-sum (by (eqb t.monomial m) refl (and_first own (all_asked side board ts) e)) (coefficient-asked side board ts (and_second own (all_asked side board ts) e) m))
    (asked-sums side (kind (monomial_sign board m)))
  where
    by : (b : Bool) → eqb t.monomial m ≡ b → has (sign_of t.coefficient) (named (asked side (kind (monomial_sign board t.monomial)))) ≡ true
        → t.coefficient *ℤ cond b (pos 1) (pos 0) ∈ named (asked side (kind (monomial_sign board m)))
    by true d h = by_equal (*ℤ-one t.coefficient) (subst (λ (k : ℕ). t.coefficient ∈ named (asked side (kind (monomial_sign board k)))) (eqb-true t.monomial m d)
        (record { sign = record { is = h } }))
    by false d h = by_equal (*ℤ-zero t.coefficient) (asked-zero side (kind (monomial_sign board m)))

-- If the set by terms of p + u·q1 + v·q2 lies inside ≥ (≤), the coefficients of each monomial add up to one that is as asked. So a try whose factors
-- give a monomial a sum that is not as asked finds nothing by that test.
pub try-asks : (side : Side) {board : Board} → Every Signed board → (p q1 q2 : Polynomial) (u v : ℤ)
    → inside (by_terms board (plus_times (plus_times p u q1) v q2)) (turned side 3) ≡ true → (m : ℕ)
    → coefficient_at m p +ℤ u *ℤ coefficient_at m q1 +ℤ v *ℤ coefficient_at m q2 ∈ named (asked side (kind (monomial_sign board m)))
try-asks side {board} signed p q1 q2 u v e m = by_equal
    (sym (plus-value (one_at m) (plus_times p u q1) v q2 ∙ ap (λ (z : ℤ). z +ℤ v *ℤ coefficient_at m q2) (plus-value (one_at m) p u q1)))
    (coefficient-asked side board (plus_times (plus_times p u q1) v q2) (terms-asked side signed (plus_times (plus_times p u q1) v q2) e) m)
