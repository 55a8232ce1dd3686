-- Fractions -a/b by cross products, with either sign of b: the order that the code computes is the book's.
-- The book multiplies over denominators above 0; the code takes b and d as they are and turns the order round where their signs differ.
use mathlib.Core.Path.{◌≡◌, refl, sym, ap, ◌∙◌}
use mathlib.Core.Bool.{Bool, true, false, not, true≢false, false≢true}
use Prim.Native.Nat.{ℕ, zero, suc}
use native.Mathlib.Omega.{arith}
use borrow.Author.Tests.{le-ltb, le-leb, lt-leb}
use lib.Dec.{leb-suc-suc}
use lib.IntN.{ℤ, pos, negsuc, neg_ℤ, ◌*ℤ◌, zero-*ℤ, *ℤ_comm, *ℤ-negsuc, neg_ℤ-neg_ℤ}
use lib.Signed.{lt_z, le_z}
use Rattle.rules.specs.Deduce.{End, free, at, at_most, is_zero, end_at_most, end_below}
use Rattle.interval.specs.Ends.{end_at}

-- ---- order and product under a change of sign

order-negated : (x y : ℤ) → le_z (neg_ℤ x) (neg_ℤ y) ≡ le_z y x
order-negated (pos zero) (pos zero) = refl
order-negated (pos zero) (pos (suc b)) = sym (lt-leb (suc b) 0 (omega arith))
order-negated (pos zero) (negsuc b) = le-leb 0 (suc b) (omega arith)
order-negated (pos (suc a)) (pos zero) = sym (le-leb 0 (suc a) (omega arith))
order-negated (pos (suc a)) (pos (suc b)) = sym (leb-suc-suc b a)
order-negated (pos (suc a)) (negsuc b) = refl
order-negated (negsuc a) (pos zero) = lt-leb (suc a) 0 (omega arith)
order-negated (negsuc a) (pos (suc b)) = refl
order-negated (negsuc a) (negsuc b) = leb-suc-suc a b

product-negated : (a b : ℤ) → neg_ℤ a *ℤ b ≡ neg_ℤ (a *ℤ b)
product-negated (pos zero) b = zero-*ℤ b ∙ sym (ap neg_ℤ (zero-*ℤ b))
product-negated (pos (suc n)) b = *ℤ_comm (negsuc n) b ∙ *ℤ-negsuc b n ∙ ap neg_ℤ (*ℤ_comm b (pos (suc n)))
product-negated (negsuc n) b = *ℤ_comm (pos (suc n)) b ∙ sym (neg_ℤ-neg_ℤ (b *ℤ pos (suc n))) ∙ ap neg_ℤ (sym (*ℤ-negsuc b n) ∙ *ℤ_comm b (negsuc n))

-- ---- cross products

-- the two cross products in order, or the other way round if just one of the denominators is below 0
abbrev pub crossed : Bool → Bool → ℤ → ℤ → Bool
crossed true true ad cb = le_z cb ad
crossed true false ad cb = le_z ad cb
crossed false true ad cb = le_z ad cb
crossed false false ad cb = le_z cb ad

not-below : (n : ℕ) → lt_z (pos n) (pos 0) ≡ false
not-below n = le-ltb n 0 (omega arith)

by-signs : (a b c d : ℤ) → is_zero b ≡ false → is_zero d ≡ false → crossed (lt_z b (pos 0)) (lt_z d (pos 0)) (a *ℤ d) (c *ℤ b) ≡ end_at_most (end_at a b) (end_at c d)
unfolding end_at_most at_most is_zero
by-signs a (pos zero) c d h k = absurd (true≢false h)
by-signs a (pos (suc b)) c (pos zero) h k = absurd (true≢false k)
by-signs a (pos (suc b)) c (pos (suc d)) h k = rw (not-below (suc b), not-below (suc d), product-negated a (pos (suc d)), product-negated c (pos (suc b)))
    (sym (order-negated (a *ℤ pos (suc d)) (c *ℤ pos (suc b))))
by-signs a (pos (suc b)) c (negsuc d) h k = rw (not-below (suc b), *ℤ-negsuc a d, product-negated a (pos (suc d)))
by-signs a (negsuc b) c (pos zero) h k = absurd (true≢false k)
by-signs a (negsuc b) c (pos (suc d)) h k = rw (not-below (suc d), *ℤ-negsuc c b, product-negated c (pos (suc b)))
by-signs a (negsuc b) c (negsuc d) h k = rw (*ℤ-negsuc a d, *ℤ-negsuc c b) (order-negated (c *ℤ pos (suc b)) (a *ℤ pos (suc d)))

-- -a/b is at most -c/d, by what was tested of b and d
pub by-cross : (a b c d : ℤ) {m n : Bool} → is_zero b ≡ false → is_zero d ≡ false → lt_z b (pos 0) ≡ m → lt_z d (pos 0) ≡ n
    → crossed m n (a *ℤ d) (c *ℤ b) ≡ end_at_most (end_at a b) (end_at c d)
by-cross a b c d h k e f = rw (← e, ← f) (by-signs a b c d h k)

-- ---- ends that are not there

pub no_end : (a b : ℤ) → is_zero b ≡ true → end_at a b ≡ free
unfolding is_zero
no_end a (pos zero) h = refl
no_end a (pos (suc b)) h = absurd (false≢true h)
no_end a (negsuc b) h = absurd (false≢true h)

pub at-most-free : (x : End) → end_at_most x free ≡ true
unfolding end_at_most
at-most-free free = refl
at-most-free (at t) = refl

pub below_free : (x : End) → end_below x free ≡ true
unfolding end_below
below_free free = refl
below_free (at t) = refl

-- two ends that are there: the one is below the other where the other is not at most the one
pub below_other : (a b c d : ℤ) → is_zero b ≡ false → is_zero d ≡ false → end_below (end_at a b) (end_at c d) ≡ not (end_at_most (end_at c d) (end_at a b))
unfolding end_below end_at_most is_zero
below_other a (pos zero) c d h k = absurd (true≢false h)
below_other a (pos (suc b)) c (pos zero) h k = absurd (true≢false k)
below_other a (pos (suc b)) c (pos (suc d)) h k = refl
below_other a (pos (suc b)) c (negsuc d) h k = refl
below_other a (negsuc b) c (pos zero) h k = absurd (true≢false k)
below_other a (negsuc b) c (pos (suc d)) h k = refl
below_other a (negsuc b) c (negsuc d) h k = refl
