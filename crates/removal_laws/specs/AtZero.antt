-- What is found at t = 0 is what p's own sign by terms says: at 0 the rows are p's monomials, each with its coefficient.
-- So it is the same answer if a monomial that is strict at t = 0 counts where q's set is < or >, or not: each finding is used beside the sign by terms.
use Rattle.std.specs.Prelude.{◌≡◌, Bool, false, ◌&&◌, ℕ, ℤ, pos}
use Rattle.std.proofs.Math.Path.{refl}
use Rattle.std.proofs.Common.{sym, ap, ◌∙◌, subst}
use Rattle.std.proofs.Math.Bool.{true}
use Rattle.std.proofs.lemmas.Bool.{false≢true}
use mathlib.Core.List.{List, [], ◌∷◌}
use Rattle.rules.specs.Signs.{Sign, negative, nought, positive, sign_of, SignSet, Kind, named, kind, only, has, sum, product, intersect, inside, open_signs}
use Rattle.rules.specs.Polynomial.{Term, Polynomial, Board, monomial_sign, by_terms_from, by_terms}
use Rattle.rules.specs.Deduce.{Fraction, Interval, Row, row, rows, is_strict, has_t, has_other, found, found_in}
use Rattle.sign_laws.specs.Booleans.{and_intro, and_first, and_second}
use Rattle.sign_laws.specs.Sets.{◌In◌, in-full, PartOf, part-refl, part-trans, in_left, in_right, in-inside}
use Rattle.sign_laws.specs.Whole.{◌∈◌}
use Rattle.deduction_laws.specs.Fractions.{combined, is-nought}
use Rattle.deduction_laws.specs.Ends.{Strength, weakly, strictly, signs}
use Rattle.deduction_laws.specs.FractionSets.{Side, L, U, asked, Holds, one_row, allowed, StrictAt, this_row, later_row, Strict, by_q, by_row, interval}
use Rattle.deduction_laws.specs.Intervals.{interval-holds}
use Rattle.deduction_laws.specs.Exact.{zero_or_not, no_row, other-inside, strict_test, strictly-found}
use Rattle.deduction_laws.specs.Deduction.{turned, sum-in}
use Rattle.deduction_laws.specs.Points.{sign-at-zero}
use Rattle.deduction_laws.specs.Rows.{of-rows}
use Rattle.removal_laws.specs.Terms.{sum-wider, product-wider}
use Rattle.removal_laws.specs.Kinds.{only-if, by-check, each-kind, name-part}

-- ---- One term.

inside-part : (a b : SignSet) → inside a b ≡ true → PartOf a b
inside-part a b e = record { each = λ x h. in-inside a b e h }

-- A coefficient of a sign that is asked makes its part ≥ 0 (for U: ≤ 0).
asked-part : (side : Side) (x : Sign) (k : Kind) → has x (named (asked side k)) ≡ true → inside (product (only x) (named k)) (turned side 3) ≡ true
unfolding open_signs
asked-part side x k = by-check (has x (named (asked side k))) (inside (product (only x) (named k)) (turned side 3)) (check side x)
  where
    test : Side → Sign → Kind → Bool
    test side x k = only-if (has x (named (asked side k))) (inside (product (only x) (named k)) (turned side 3))

    check : (side : Side) (x : Sign) → test side x k ≡ true
    check L negative = each-kind (test L negative) refl k
    check L nought = each-kind (test L nought) refl k
    check L positive = each-kind (test L positive) refl k
    check U negative = each-kind (test U negative) refl k
    check U nought = each-kind (test U nought) refl k
    check U positive = each-kind (test U positive) refl k

-- And > 0 (for U: < 0), if it is not 0 and the monomial is strict.
strict-part : (side : Side) (x : Sign) (k : Kind) → has x (named (asked side k)) && (has x 5 && is_strict k) ≡ true
    → inside (product (only x) (named k)) (turned side 1) ≡ true
unfolding open_signs is_strict
strict-part side x k = by-check (has x (named (asked side k)) && (has x 5 && is_strict k)) (inside (product (only x) (named k)) (turned side 1)) (check side x)
  where
    test : Side → Sign → Kind → Bool
    test side x k = only-if (has x (named (asked side k)) && (has x 5 && is_strict k)) (inside (product (only x) (named k)) (turned side 1))

    check : (side : Side) (x : Sign) → test side x k ≡ true
    check L negative = each-kind (test L negative) refl k
    check L nought = each-kind (test L nought) refl k
    check L positive = each-kind (test L positive) refl k
    check U negative = each-kind (test U negative) refl k
    check U nought = each-kind (test U nought) refl k
    check U positive = each-kind (test U positive) refl k

nought-part : (side : Side) → PartOf 2 (turned side 3)
unfolding open_signs
nought-part L = inside-part 2 3 refl
nought-part U = inside-part 2 6 refl

-- ---- All terms.

-- What is kept if a part of strength weakly is added.
stays : (side : Side) (i : Strength) → inside (sum (turned side (signs i)) (turned side 3)) (turned side (signs i)) ≡ true
stays side weakly = sum-in side weakly weakly
stays side strictly = sum-in side strictly weakly

never : {X : Type 0} → has nought 5 ≡ true → X
unfolding open_signs
never e = absurd (false≢true e)

module _ (side : Side) (board : Board) (t : Fraction) (z : t.numerator ≡ pos 0) where
  -- What the rows say at 0, of the sum of p's terms and what comes before them.
  record Said (p : Polynomial) (xs : List Row) : Type 0 where
    same : (i : Strength) (sofar : SignSet) → PartOf sofar (turned side (signs i)) → PartOf (by_terms_from sofar board p) (turned side (signs i))
    firm : StrictAt xs t → (sofar : SignSet) → PartOf sofar (turned side 3) → PartOf (by_terms_from sofar board p) (turned side 1)

  sign-there : (a b : ℤ) (s : SignSet) → combined t a b ∈ s → has (sign_of a) s ≡ true
  sign-there a b s h = ap (λ x. has x s) (sym (sign-at-zero t a b z)) ∙ h.sign.is

  named-part : (a : ℤ) (m : ℕ) (s : SignSet) → inside (product (only (sign_of a)) (named (kind (monomial_sign board m)))) s ≡ true
      → PartOf (product (only (sign_of a)) (monomial_sign board m)) s
  named-part a m s e = part-trans (product-wider (part-refl (only (sign_of a))) (name-part (monomial_sign board m))) (inside-part _ s e)

  -- A row with a term of p.
  term-row : (u : Term) (b : ℤ) (p : Polynomial) (xs : List Row) → (Holds side xs t → Said p xs)
      → Holds side (row board u.coefficient b u.monomial ∷ xs) t → Said (u ∷ p) (row board u.coefficient b u.monomial ∷ xs)
  unfolding by_terms_from row
  term-row u b p xs later (one_row h hs) = let rest = later hs in
      let k = kind (monomial_sign board u.monomial) in
      let here = sign-there u.coefficient b (named (asked side k)) h in
      let weak = named-part u.coefficient u.monomial (turned side 3) (asked-part side (sign_of u.coefficient) k here) in
      record {
        same = λ i sofar f. rest.same i _ (part-trans (sum-wider f weak) (inside-part _ _ (stays side i)));
        firm = λ s sofar f. firmly rest here weak s sofar f;
      }
    where
      firmly : Said p xs → has (sign_of u.coefficient) (named (asked side (kind (monomial_sign board u.monomial)))) ≡ true
          → PartOf (product (only (sign_of u.coefficient)) (monomial_sign board u.monomial)) (turned side 3)
          → StrictAt (row board u.coefficient b u.monomial ∷ xs) t → (sofar : SignSet) → PartOf sofar (turned side 3)
          → PartOf (by_terms_from (sum sofar (product (only (sign_of u.coefficient)) (monomial_sign board u.monomial))) board p) (turned side 1)
      firmly rest here weak (this_row e n) sofar f = rest.same strictly _ (part-trans (sum-wider f
          (named-part u.coefficient u.monomial (turned side 1) (strict-part side (sign_of u.coefficient) (kind (monomial_sign board u.monomial))
          (and_intro here (and_intro (sign-there u.coefficient b 5 n) e))))) (inside-part _ _ (sum-in side weakly strictly)))
      firmly rest here weak (later_row s) sofar f = rest.firm s _ (part-trans (sum-wider f weak) (inside-part _ _ (sum-in side weakly weakly)))

  -- A row with a term of q alone.
  other_row : (u : Term) (p : Polynomial) (xs : List Row) → (Holds side xs t → Said p xs)
      → Holds side (row board (pos 0) u.coefficient u.monomial ∷ xs) t → Said p (row board (pos 0) u.coefficient u.monomial ∷ xs)
  unfolding row sign_of
  other_row u p xs later (one_row h hs) = record { same = (later hs).same; firm = λ s. firmly (later hs) s }
    where
      firmly : Said p xs → StrictAt (row board (pos 0) u.coefficient u.monomial ∷ xs) t → (sofar : SignSet) → PartOf sofar (turned side 3)
          → PartOf (by_terms_from sofar board p) (turned side 1)
      firmly rest (this_row e n) = never (sign-there (pos 0) u.coefficient 5 n)
      firmly rest (later_row s) = rest.firm s

  said : (p q : Polynomial) → Holds side (rows board p q) t → Said p (rows board p q)
  unfolding by_terms_from
  said = of-rows board (λ p q xs. Holds side xs t → Said p xs) (record {
    none = λ h. record { same = λ i sofar f. f; firm = λ s. absurd (no_row s) };
    mine = λ u p q xs m later. term-row u (pos 0) p xs later;
    its = λ u p q xs m later. other_row u p xs later;
    both = λ u w p q xs m later. term-row u w.coefficient p xs later;
  })

  -- If L holds 0, p is ≥ 0 by terms (for U: ≤ 0).
  pub zero-by-terms : (p q : Polynomial) → Holds side (rows board p q) t → PartOf (by_terms board p) (turned side 3)
  unfolding by_terms
  zero-by-terms p q h = (said p q h).same weakly 2 (nought-part side)

  -- And > 0, if some monomial is strict there.
  pub strict-by-terms : (p q : Polynomial) → Holds side (rows board p q) t → StrictAt (rows board p q) t → PartOf (by_terms board p) (turned side 1)
  unfolding by_terms
  strict-by-terms p q h s = (said p q h).firm s 2 (nought-part side)

-- ---- So it is no other answer if a monomial that is strict counts for t other than 0 only, where q's set is < or >.

-- What would be found without it.
unfoldable pub found_otherwise : Kind → Interval → SignSet
found_otherwise k r = found (has_t r && (is_strict k && has_other r)) (has_t r)

module _ (board : Board) (p q : Polynomial) (k : Kind) (e : is_strict k ≡ true) (side : Side) where
  -- Beside the sign by terms, it is the same.
  pub no-other-answer : PartOf (intersect (by_terms board p) (turned side (found_otherwise k (interval side k (rows board p q)))))
      (turned side (found_in k (interval side k (rows board p q)) (rows board p q)))
  unfolding found_otherwise found_in found open_signs
  no-other-answer = record { each = λ x h. by x (in_left (by_terms board p) (turned side (found other (has_t r))) h) (in_right (by_terms board p) (turned side (found other (has_t r))) h) (strict_test r k xs) refl }
    where
      xs : List Row
      xs = rows board p q

      r : Interval
      r = interval side k xs

      other : Bool
      other = has_t r && (is_strict k && has_other r)

      from-strict : (x : Sign) → x In by_terms board p → x In turned side (found other (has_t r)) → strict_test r k xs ≡ true → x In turned side 1
      from-strict x h g f = let s = (strictly-found side k xs).0 f in at-t s.t s.held s.sign s.strict
        where
          at_other : (t : Fraction) → Holds side xs t → t.numerator ∈ named (allowed side k) → t.numerator ∈ 5 → x In turned side 1
          at_other t i a n = subst (λ (b : Bool). x In turned side (found b (has_t r)))
              (let j = (other-inside r).1 (t, (interval-holds side k xs t).1 (i, a), n) in and_intro (and_first (has_t r) _ j) (and_intro e (and_second (has_t r) _ j))) g

          at-t : (t : Fraction) → Holds side xs t → t.numerator ∈ named (allowed side k) → Strict k xs t → x In turned side 1
          at-t t i a (by_q d n) = at_other t i a n
          at-t t i a (by_row s) = zero_or_not t.numerator
              (λ y. (strict-by-terms side board t (is-nought t.numerator y) p q i s).each x h) (λ y. at_other t i a y)

      weaken : (side : Side) (a b : Bool) (x : Sign) → x In turned side (found a b) → x In turned side (found false b)
      weaken L true true x g = in-inside 1 3 refl g
      weaken L true false x g = in-full x
      weaken L false b x g = g
      weaken U true true x g = in-inside 4 6 refl g
      weaken U true false x g = in-full x
      weaken U false b x g = g

      by : (x : Sign) → x In by_terms board p → x In turned side (found other (has_t r)) → (b : Bool) → strict_test r k xs ≡ b → x In turned side (found b (has_t r))
      by x h g true f = from-strict x h g f
      by x h g false f = weaken side other (has_t r) x g
