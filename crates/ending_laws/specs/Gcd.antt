-- The steps of `gcd` never run out: what it gives is the greatest common divisor, and `content` is that of a polynomial's coefficients.
-- 01, "Normal form": "Divide by the greatest common divisor of the coefficients".
use Rattle.std.specs.Prelude.{◌≡◌, refl, [], ◌∷◌, ℕ, zero, suc, ◌%◌, ◌<◌, nat_abs}
use Rattle.std.specs.Int.{◌∣◌}
use Rattle.std.proofs.Math.Nat.{dvd_refl, dvd-zero, dvd_trans, dvd-mod_iff, one-dvd, pos_of_dvd_of_pos}
use Rattle.std.proofs.Common.{mod-lt, zero-lt-suc, arith}
use Rattle.rules.specs.Polynomial.{Term, Polynomial, gcd_within, gcd, content_from, or_one, content}
use Rattle.rules.specs.Limits.{PolynomialWithin, TermsWithin, terms as within-terms}

-- More steps than b change nothing.
pub more-steps-change-nothing : (k j a b : ℕ) → b < k → b < j → gcd_within k a b ≡ gcd_within j a b
unfolding gcd_within
more-steps-change-nothing zero j a b h i = absurd (omega arith)
more-steps-change-nothing (suc k) zero a b h i = absurd (omega arith)
more-steps-change-nothing (suc k) (suc j) a zero h i = refl
more-steps-change-nothing (suc k) (suc j) a (suc b) h i =
    let falls = mod-lt a (zero-lt-suc b) in more-steps-change-nothing k j (suc b) (a % suc b) (omega arith) (omega arith)

within-divides : (k a b : ℕ) → b < k → (gcd_within k a b ∣ a) × (gcd_within k a b ∣ b)
unfolding gcd_within
within-divides zero a b h = absurd (omega arith)
within-divides (suc k) a zero h = (dvd_refl a, dvd-zero a)
within-divides (suc k) a (suc b) h =
    let rest = within-divides k (suc b) (a % suc b) (omega (arith, mod-lt a (zero-lt-suc b))) in ((dvd-mod_iff _ rest.0).0 rest.1, rest.0)

within-greatest : (k a b d : ℕ) → d ∣ a → d ∣ b → d ∣ gcd_within k a b
unfolding gcd_within
within-greatest zero a b d x y = x
within-greatest (suc k) a zero d x y = x
within-greatest (suc k) a (suc b) d x y = within-greatest k (suc b) (a % suc b) d y ((dvd-mod_iff d y).1 x)

-- The gcd of two numbers divides both.
pub gcd-divides : (a b : ℕ) → (gcd a b ∣ a) × (gcd a b ∣ b)
unfolding gcd
gcd-divides a b = within-divides (suc b) a b (omega arith)

-- Every common divisor of two numbers divides their gcd.
pub gcd-greatest : (a b d : ℕ) → d ∣ a → d ∣ b → d ∣ gcd a b
unfolding gcd
gcd-greatest a b d x y = within-greatest (suc b) a b d x y

-- ---- The content of a polynomial.

-- d divides each coefficient.
pub data DividesEach (d : ℕ) : Polynomial → Type 0 where
  no_terms : DividesEach d []
  terms : {t : Term} {ts : Polynomial} → d ∣ nat_abs t.coefficient → DividesEach d ts → DividesEach d (t ∷ ts)

from-divides : (g : ℕ) (p : Polynomial) → (content_from g p ∣ g) × DividesEach (content_from g p) p
unfolding content_from
from-divides g [] = (dvd_refl g, no_terms)
from-divides g (t ∷ ts) =
    let rest = from-divides (gcd (nat_abs t.coefficient) g) ts in
    let both = gcd-divides (nat_abs t.coefficient) g in
    (dvd_trans _ rest.0 both.1, terms (dvd_trans _ rest.0 both.0) rest.1)

from-greatest : (g : ℕ) (p : Polynomial) (d : ℕ) → d ∣ g → DividesEach d p → d ∣ content_from g p
unfolding content_from
from-greatest g [] d x no_terms = x
from-greatest g (t ∷ ts) d x (terms y ys) = from-greatest (gcd (nat_abs t.coefficient) g) ts d (gcd-greatest (nat_abs t.coefficient) g d y x) ys

-- The greatest common divisor of the coefficients divides each of them.
pub content_from-divides : (p : Polynomial) → DividesEach (content_from 0 p) p
content_from-divides p = (from-divides 0 p).1

-- Every number that divides each coefficient divides it.
pub content_from-greatest : (p : Polynomial) (d : ℕ) → DividesEach d p → d ∣ content_from 0 p
content_from-greatest p d each = from-greatest 0 p d (dvd-zero d) each

-- The content is above 0: it can be divided by.
pub content-above-zero : (p : Polynomial) → 0 < content p
unfolding content or_one
content-above-zero p = or-one (content_from 0 p)
  where
    or-one : (g : ℕ) → 0 < or_one g
    or-one zero = omega arith
    or-one (suc g) = omega arith

one-divides-each : (p : Polynomial) → DividesEach 1 p
one-divides-each [] = no_terms
one-divides-each (t ∷ ts) = terms (one-dvd _) (one-divides-each ts)

-- The content divides each coefficient, also where it is 1 for want of a coefficient other than 0.
pub content-divides : (p : Polynomial) → DividesEach (content p) p
unfolding content or_one
content-divides p = at-content (content_from 0 p) (content_from-divides p)
  where
    at-content : (g : ℕ) → DividesEach g p → DividesEach (or_one g) p
    at-content zero each = one-divides-each p
    at-content (suc g) each = each

first-divided : {d : ℕ} {t : Term} {ts : Polynomial} → DividesEach d (t ∷ ts) → d ∣ nat_abs t.coefficient
first-divided (terms h each) = h

-- Where the first coefficient is not 0, no content is wanting: it is the greatest common divisor itself.
pub content-itself : (t : Term) (ts : Polynomial) → 0 < nat_abs t.coefficient → content (t ∷ ts) ≡ content_from 0 (t ∷ ts)
unfolding content or_one
content-itself t ts not_zero = is-itself (content_from 0 (t ∷ ts)) (pos_of_dvd_of_pos (first-divided (content_from-divides (t ∷ ts))) not_zero)
  where
    is-itself : (g : ℕ) → 0 < g → or_one g ≡ g
    is-itself zero h = absurd (omega arith)
    is-itself (suc g) h = refl

-- So it is in the polynomials of a block.
pub content-in-block : (n : ℕ) (p : Polynomial) → PolynomialWithin n p → content p ≡ content_from 0 p
content-in-block n [] within = absurd (omega (arith, within.not_none))
content-in-block n (t ∷ ts) within = content-itself t ts (not_zero within.each)
  where
    not_zero : {above : ℕ} → TermsWithin above (t ∷ ts) → 0 < nat_abs t.coefficient
    not_zero (within-terms first later) = first.not_zero
