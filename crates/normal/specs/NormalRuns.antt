-- The normal form of a run is the book's normal form of the polynomial that stands there, whatever its monomials are.
-- The places outside the run keep what they hold.
use Rattle.std.specs.Prelude.{◌≡◌, refl, Bool, true, false, List, [], ◌∷◌, ℕ, zero, suc, ◌+◌, ◌-◌, ◌^◌, ◌<◌, ◌≤◌, ℤ, pos, neg_ℤ, nat_abs, length, get_or}
use Rattle.std.proofs.Common.{sym, ap, ap₂, ◌∙◌, lt_of_le_of_lt, div-le_self, arith}
use Rattle.std.specs.Int.Signed.{quot_z}
use Rattle.rules.specs.Signs.{SignSet}
use Rattle.rules.specs.Polynomial.{Term, Polynomial, gcd, content_from, or_one, content, each_coefficient, divided, first_is_negative, turned, normal}
use Rattle.terms.specs.View.{terms_from, terms_of}
use Rattle.normal_laws.specs.Twice.{magnitude-quotient}
use Rattle.normal.specs.Stores.{stores, stores-length, kept, stored}
use Rattle.normal.specs.Normal.{Bounded, coefficients, divided_run, negated_run, turned_run, is_turned, normal_run, turned_set}
use Rattle.normal.specs.Euclid.{gcd-small}

-- ---- Runs of two arrays place by place.

-- Each coefficient of the one run is f of the other's, the monomials are the same.
pub terms-each : (f : ℤ → ℤ) (cs cs' : List ℤ) (ms ms' : List ℕ) (i k : ℕ)
    → ((j : ℕ) → i ≤ j → j < i + k → get_or cs' j (pos 0) ≡ f (get_or cs j (pos 0)))
    → ((j : ℕ) → i ≤ j → j < i + k → get_or ms' j 0 ≡ get_or ms j 0)
    → terms_from cs' ms' i k ≡ each_coefficient f (terms_from cs ms i k)
unfolding terms_from each_coefficient
terms-each f cs cs' ms ms' i zero c m = refl
terms-each f cs cs' ms ms' i (suc k) c m =
    ap₂ (λ (t : Term) (p : Polynomial). t ∷ p)
    (ap₂ (λ (x : ℤ) (y : ℕ). record { coefficient = x; monomial = y }) (c i (omega arith) (omega arith)) (m i (omega arith) (omega arith)))
    (terms-each f cs cs' ms ms' (suc i) k (λ j h n. c j (omega arith) (omega arith)) (λ j h n. m j (omega arith) (omega arith)))

each-itself : (p : Polynomial) → each_coefficient (λ c. c) p ≡ p
unfolding each_coefficient
each-itself [] = refl
each-itself (t ∷ ts) = ap (λ (p : Polynomial). t ∷ p) (each-itself ts)

-- Runs that agree place by place hold the same polynomial.
pub terms-alike : (cs cs' : List ℤ) (ms ms' : List ℕ) (i k : ℕ)
    → ((j : ℕ) → i ≤ j → j < i + k → get_or cs' j (pos 0) ≡ get_or cs j (pos 0))
    → ((j : ℕ) → i ≤ j → j < i + k → get_or ms' j 0 ≡ get_or ms j 0)
    → terms_from cs' ms' i k ≡ terms_from cs ms i k
terms-alike cs cs' ms ms' i k c m = terms-each (λ c. c) cs cs' ms ms' i k c m ∙ each-itself (terms_from cs ms i k)

-- ---- What a run becomes.

module _ (target : List ℤ) (from to : ℕ) (there : to ≤ length target) where
  run-place : (value : ℕ → ℤ → ℤ) (j : ℕ) → from ≤ j → j < from + (to - from)
      → get_or (stores (pos 0) (λ i. i) value target from to) j (pos 0) ≡ value j (get_or target j (pos 0))
  run-place value j h m = stored (pos 0) (λ i. i) value (λ i o e. e) target from (to - from) j h m (omega arith)

  -- The divided run is the polynomial with each coefficient divided.
  pub divided-terms : (by : ℕ) (cs : List ℤ) (ms : List ℕ) → terms_of (divided_run by cs target from to) ms from to
      ≡ each_coefficient (λ c. quot_z c (pos by)) (terms_of cs ms from to)
  divided-terms by cs ms =
      terms-each (λ c. quot_z c (pos by)) cs (divided_run by cs target from to) ms ms from (to - from)
      (λ j h m. run-place (λ i x. quot_z (get_or cs i (pos 0)) (pos by)) j h m) (λ j h m. refl)

  -- The negated run is the polynomial with each coefficient negated.
  pub negated-terms : (ms : List ℕ) → terms_of (negated_run target from to) ms from to ≡ each_coefficient neg_ℤ (terms_of target ms from to)
  negated-terms ms = terms-each neg_ℤ target (negated_run target from to) ms ms from (to - from) (λ j h m. run-place (λ i x. neg_ℤ x) j h m) (λ j h m. refl)

  -- Quotients are within the bound of what was divided.
  pub bounded-divided : (by : ℕ) (cs : List ℤ) → Bounded cs from to → Bounded (divided_run by cs target from to) from to
  bounded-divided by cs b = record {
    there = rw (stores-length (pos 0) (λ i. i) (λ i x. quot_z (get_or cs i (pos 0)) (pos by)) target from (to - from)) there;
    magnitude = λ j h m. rw (run-place (λ i x. quot_z (get_or cs i (pos 0)) (pos by)) j h (omega arith), magnitude-quotient (get_or cs j (pos 0)) by)
        (lt_of_le_of_lt (div-le_self (nat_abs (get_or cs j (pos 0))) by) (b.magnitude j h m));
  }

-- ---- The content and the first coefficient do not depend on the monomials.

content-from-alike : (cs : List ℤ) (ms : List ℕ) (g i k : ℕ) → content_from g (terms_from cs ms i k) ≡ content_from g (terms_from cs [] i k)
unfolding content_from terms_from
content-from-alike cs ms g i zero = refl
content-from-alike cs ms g i (suc k) = content-from-alike cs ms (gcd (nat_abs (get_or cs i (pos 0))) g) (suc i) k

content-alike : (cs : List ℤ) (ms : List ℕ) (i k : ℕ) → content (terms_from cs ms i k) ≡ content (terms_from cs [] i k)
unfolding content
content-alike cs ms i k = ap or_one (content-from-alike cs ms 0 i k)

first_alike : (f : ℤ → ℤ) (cs : List ℤ) (ms : List ℕ) (i k : ℕ) → first_is_negative (each_coefficient f (terms_from cs ms i k))
    ≡ first_is_negative (each_coefficient f (terms_from cs [] i k))
unfolding first_is_negative each_coefficient terms_from
first_alike f cs ms i zero = refl
first_alike f cs ms i (suc k) = refl

turned-alike : (cs : List ℤ) (ms : List ℕ) (from to : ℕ) → first_is_negative (divided (terms_of cs ms from to)) ≡ is_turned cs from to
unfolding divided is_turned
turned-alike cs ms from to = rw (content-alike cs ms from (to - from)) (first_alike (λ c. quot_z c (pos (content (coefficients cs from to)))) cs ms from (to - from))

-- ---- The normal form.

-- The divided run shows whether it is to be negated.
pub divided-first : (cs target : List ℤ) (from to : ℕ) → to ≤ length target
    → first_is_negative (coefficients (divided_run (content (coefficients cs from to)) cs target from to) from to) ≡ is_turned cs from to
unfolding divided is_turned
divided-first cs target from to there = ap first_is_negative (divided-terms target from to there (content (coefficients cs from to)) cs [])

turned-run : (b : Bool) (d : List ℤ) (ms : List ℕ) (from to : ℕ) (p : Polynomial) (s : SignSet) → to ≤ length d → terms_of d ms from to ≡ p
    → record { polynomial = terms_of (turned_run b d from to) ms from to; set = turned_set b s } ≡ turned b p s
unfolding turned_run turned_set turned
turned-run true d ms from to p s there e = ap (λ (q : Polynomial). record { polynomial = q; set = turned_set true s })
    (negated-terms d from to there ms ∙ ap (each_coefficient neg_ℤ) e)
turned-run false d ms from to p s there e = ap (λ (q : Polynomial). record { polynomial = q; set = s }) e

-- The normal form of the run is the normal form of its polynomial, and its set is mirrored if it was negated.
pub normal-run : (cs target : List ℤ) (ms : List ℕ) (from to : ℕ) (s : SignSet) → to ≤ length target
    → record { polynomial = terms_of (normal_run cs target from to) ms from to; set = turned_set (is_turned cs from to) s }
    ≡ normal (record { polynomial = terms_of cs ms from to; set = s })
unfolding normal normal_run divided
normal-run cs target ms from to s there =
    let by = content (coefficients cs from to) in
    let p = terms_of cs ms from to in
    turned-run (is_turned cs from to) (divided_run by cs target from to) ms from to (divided p) s
    (rw (stores-length (pos 0) (λ i. i) (λ i x. quot_z (get_or cs i (pos 0)) (pos by)) target from (to - from)) there)
    (divided-terms target from to there by cs ms ∙ ap (λ (g : ℕ). each_coefficient (λ c. quot_z c (pos g)) p) (sym (content-alike cs ms from (to - from))))
    ∙ ap (λ (b : Bool). turned b (divided p) s) (sym (turned-alike cs ms from to))

-- ---- Outside the run.

-- The array keeps its length.
pub normal-length : (cs target : List ℤ) (from to : ℕ) → length (normal_run cs target from to) ≡ length target
unfolding normal_run turned_run
normal-length cs target from to =
    turned-length (is_turned cs from to) (divided_run (content (coefficients cs from to)) cs target from to)
    ∙ stores-length (pos 0) (λ i. i) (λ i x. quot_z (get_or cs i (pos 0)) (pos (content (coefficients cs from to)))) target from (to - from)
  where
    turned-length : (b : Bool) (d : List ℤ) → length (turned_run b d from to) ≡ length d
    turned-length true d = stores-length (pos 0) (λ i. i) (λ i x. neg_ℤ x) d from (to - from)
    turned-length false d = refl

-- A place outside the run keeps what it holds.
pub normal-kept : (cs target : List ℤ) (from to place : ℕ) → (from ≤ place → place < to → ⊥) → get_or (normal_run cs target from to) place (pos 0)
    ≡ get_or target place (pos 0)
unfolding normal_run turned_run
normal-kept cs target from to place outside =
    turned-kept (is_turned cs from to) (divided_run (content (coefficients cs from to)) cs target from to)
    ∙ kept (pos 0) (λ i. i) (λ i x. quot_z (get_or cs i (pos 0)) (pos (content (coefficients cs from to)))) target from (to - from) place other
  where
    other : (j : ℕ) → from ≤ j → j < from + (to - from) → place ≡ j → ⊥
    other j h m e = outside (omega arith) (omega arith)

    turned-kept : (b : Bool) (d : List ℤ) → get_or (turned_run b d from to) place (pos 0) ≡ get_or d place (pos 0)
    turned-kept true d = kept (pos 0) (λ i. i) (λ i x. neg_ℤ x) d from (to - from) place other
    turned-kept false d = refl

-- ---- The bound on the content.

from-small : (m : ℕ) (cs : List ℤ) (g i k : ℕ) → g < m → ((j : ℕ) → i ≤ j → j < i + k → nat_abs (get_or cs j (pos 0)) < m) → content_from g (terms_from cs [] i k) < m
unfolding content_from terms_from
from-small m cs g i zero h each = h
from-small m cs g i (suc k) h each =
    from-small m cs (gcd (nat_abs (get_or cs i (pos 0))) g) (suc i) k (gcd-small m (nat_abs (get_or cs i (pos 0))) g (each i (omega arith) (omega arith)) h)
    (λ j p q. each j (omega arith) (omega arith))

or-one-small : (g : ℕ) → g < 2 ^ 31 → or_one g < 2 ^ 31
unfolding or_one
or-one-small zero h = omega arith
or-one-small (suc g) h = h

-- A content within the bound can be divided by in 32 signed bits.
pub content-small : (cs : List ℤ) (from to : ℕ) → Bounded cs from to → content (coefficients cs from to) < 2 ^ 31
unfolding content
content-small cs from to b =
    or-one-small (content_from 0 (coefficients cs from to)) (from-small (2 ^ 31) cs 0 from (to - from) (omega arith) (λ j h m. b.magnitude j h (omega arith)))
