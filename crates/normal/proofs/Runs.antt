-- A run of coefficients walked one place at a time: its content, its first coefficient, and the bound on what is left of it.
-- A loop over a run cites the law of its step, and that of its end.
use mathlib.Core.Path.{◌≡◌, refl}
use mathlib.Core.Bool.{false, not}
use mathlib.Core.List.{List, []}
use Prim.Native.Nat.{ℕ, ◌+◌, ◌<◌, ◌≤◌, zero-le}
use native.Mathlib.Omega.{arith}
use borrow.Author.Tests.{le-ltb}
use lib.IntN.{ℤ, pos, negsuc, nat_abs}
use lib.ListN.{get_or, set, length-set}
use lib.Seq.{get_or-set_other}
use lib.Signed.{lt_z, non_neg}
use Rattle.rules.specs.Polynomial.{gcd, content_from, first_is_negative}
use Rattle.terms.specs.View.{terms-cons, terms-nil}
use Rattle.normal.specs.Normal.{Bounded, coefficients}

-- What is left of a run after a store at its first place.
pub bounded-after : (cs : List ℤ) (i to : ℕ) (z : ℤ) → Bounded cs i to → Bounded (set cs i z) (i + 1) to
bounded-after cs i to z b = record {
  there = rw (length-set cs i z) b.there;
  magnitude = λ j h m. rw (get_or-set_other cs i j z (pos 0) (λ e. omega arith)) (b.magnitude j (omega arith) m);
}

-- ---- The content.

-- The content of a run is that of the rest, from the common divisor with the first.
pub content-step : (cs : List ℤ) (g i to : ℕ) → i < to → content_from g (coefficients cs i to)
    ≡ content_from (gcd (nat_abs (get_or cs i (pos 0))) g) (coefficients cs (i + 1) to)
unfolding content_from
content-step cs g i to h = rw (terms-cons cs [] i to h)

-- Nothing left: the common divisor so far.
pub content-end : (cs : List ℤ) (g i to : ℕ) → to ≤ i → content_from g (coefficients cs i to) ≡ g
unfolding content_from
content-end cs g i to h = rw (terms-nil cs [] i to h)

-- ---- The first coefficient.

is_negative : (z : ℤ) → lt_z z (pos 0) ≡ not (non_neg z)
is_negative (pos n) = le-ltb n 0 zero-le
is_negative (negsuc n) = refl

-- The sign of the first coefficient, where there is one.
pub first_some : (cs : List ℤ) (from to : ℕ) → from < to → lt_z (get_or cs from (pos 0)) (pos 0) ≡ first_is_negative (coefficients cs from to)
unfolding first_is_negative
first_some cs from to h = rw (terms-cons cs [] from to h) (is_negative (get_or cs from (pos 0)))

-- And where there is none.
pub first-none : (cs : List ℤ) (from to : ℕ) → to ≤ from → false ≡ first_is_negative (coefficients cs from to)
unfolding first_is_negative
first-none cs from to h = rw (terms-nil cs [] from to h)
