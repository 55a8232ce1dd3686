-- What the code does for each sign set, by its number: the cuts of L and U, and the sets that ask for a + tb = 0.
-- The code matches on the number; the book goes by the kind of that number.
use mathlib.Core.Path.{◌≡◌, refl}
use mathlib.Core.Bool.{true, false, false≢true}
use mathlib.Core.List.{[], ◌∷◌}
use mathlib.Core.Logic.{inl, inr}
use Prim.Native.Nat.{ℕ, suc}
use lib.IntN.{ℤ}
use types.Run.{OneOf}
use native.Mathlib.Omega.{arith}
use borrow.Author.Tests.{le-leb}
use lib.Dec.{leb}
use Rattle.rules.specs.Signs.{Kind, ∅, >0, =0, ≥0, <0, ≠0, ≤0, any, kind, named, mirror, open_signs}
use Rattle.rules.specs.Deduce.{Interval, cut_not_negative, cut_not_positive, cut_l, cut_u, is_strict}
use Rattle.deduction_laws.specs.FractionSets.{L, U, asked}
use Rattle.interval.specs.Kinds.{by-kind}
use Rattle.deduce.specs.Last.{asks_zero}

-- ---- the cuts of L and U

module _ (k : ℕ) (a b : ℤ) (r : Interval) where
  -- > and ≥
  pub cut-positive : OneOf (1 ∷ 3 ∷ []) k → (cut_l (kind k) a b r ≡ cut_not_negative a b r) × (cut_u (kind k) a b r ≡ cut_not_positive a b r)
  unfolding kind cut_l cut_u
  cut-positive (inl e) = rw e (refl, refl)
  cut-positive (inr e) = rw e (refl, refl)

  -- < and ≤
  pub cut-negative : OneOf (4 ∷ 6 ∷ []) k → (cut_l (kind k) a b r ≡ cut_not_positive a b r) × (cut_u (kind k) a b r ≡ cut_not_negative a b r)
  unfolding kind cut_l cut_u
  cut-negative (inl e) = rw e (refl, refl)
  cut-negative (inr e) = rw e (refl, refl)

  -- =
  pub cut-none : OneOf (0 ∷ 2 ∷ []) k → (cut_l (kind k) a b r ≡ r) × (cut_u (kind k) a b r ≡ r)
  unfolding kind cut_l cut_u
  cut-none (inl e) = rw e (refl, refl)
  cut-none (inr e) = rw e (refl, refl)

-- ≠ and full
pub cut-both : (a b : ℤ) (r : Interval) (k : ℕ) → (OneOf (1 ∷ 3 ∷ []) k → ⊥) → (OneOf (4 ∷ 6 ∷ []) k → ⊥) → (OneOf (0 ∷ 2 ∷ []) k → ⊥)
    → (cut_l (kind k) a b r ≡ cut_not_negative a b (cut_not_positive a b r)) × (cut_u (kind k) a b r ≡ cut_not_negative a b (cut_not_positive a b r))
unfolding cut_l cut_u
cut-both a b r = by-kind
    (λ k s. (OneOf (1 ∷ 3 ∷ []) k → ⊥) → (OneOf (4 ∷ 6 ∷ []) k → ⊥) → (OneOf (0 ∷ 2 ∷ []) k → ⊥)
    → (cut_l s a b r ≡ cut_not_negative a b (cut_not_positive a b r)) × (cut_u s a b r ≡ cut_not_negative a b (cut_not_positive a b r)))
    (λ f g h. absurd (h (inl refl))) (λ f g h. absurd (f (inl refl))) (λ f g h. absurd (h (inr refl))) (λ f g h. absurd (f (inr refl)))
    (λ f g h. absurd (g (inl refl))) (λ f g h. (refl, refl)) (λ f g h. absurd (g (inr refl))) (λ k f g h. (refl, refl))

-- ---- the sets that ask for a + tb = 0, and what the others ask for

-- ≠
pub zero-asked : (k : ℕ) → k ≡ 5 → true ≡ asks_zero (kind k)
unfolding kind asks_zero
zero-asked k e = rw e

-- full, and no other
pub zero-asked-from : (k : ℕ) → (k ≡ 5 → ⊥) → leb 7 k ≡ asks_zero (kind k)
unfolding asks_zero
zero-asked-from = by-kind (λ k s. (k ≡ 5 → ⊥) → leb 7 k ≡ asks_zero s)
    (λ f. refl) (λ f. refl) (λ f. refl) (λ f. refl) (λ f. refl) (λ f. absurd (f refl)) (λ f. refl) (λ k f. le-leb 7 (suc (suc (suc (suc (suc (suc (suc k))))))) (omega arith))

module _ (k : ℕ) where
  pub asked-positive : OneOf (1 ∷ 3 ∷ []) k → 3 ≡ named (asked L (kind k))
  unfolding kind named
  asked-positive (inl e) = rw e
  asked-positive (inr e) = rw e

  pub asked-negative : OneOf (4 ∷ 6 ∷ []) k → 6 ≡ named (asked L (kind k))
  unfolding kind named
  asked-negative (inl e) = rw e
  asked-negative (inr e) = rw e

  pub asked-none : OneOf (0 ∷ 2 ∷ []) k → 7 ≡ named (asked L (kind k))
  unfolding kind named
  asked-none (inl e) = rw e
  asked-none (inr e) = rw e

pub asked-zero : (k : ℕ) → (OneOf (1 ∷ 3 ∷ []) k → ⊥) → (OneOf (4 ∷ 6 ∷ []) k → ⊥) → (OneOf (0 ∷ 2 ∷ []) k → ⊥) → 2 ≡ named (asked L (kind k))
unfolding named
asked-zero = by-kind
    (λ k s. (OneOf (1 ∷ 3 ∷ []) k → ⊥) → (OneOf (4 ∷ 6 ∷ []) k → ⊥) → (OneOf (0 ∷ 2 ∷ []) k → ⊥) → 2 ≡ named (asked L s))
    (λ f g h. absurd (h (inl refl))) (λ f g h. absurd (f (inl refl))) (λ f g h. absurd (h (inr refl))) (λ f g h. absurd (f (inr refl)))
    (λ f g h. absurd (g (inl refl))) (λ f g h. refl) (λ f g h. absurd (g (inr refl))) (λ k f g h. refl)

-- where a + tb = 0 is asked for
pub asks-zero : (k : Kind) → asks_zero k ≡ true → (asked L k ≡ =0) × ((asked U k ≡ =0) × (is_strict k ≡ false))
unfolding asks_zero is_strict
asks-zero ∅ e = absurd (false≢true e)
asks-zero >0 e = absurd (false≢true e)
asks-zero =0 e = absurd (false≢true e)
asks-zero ≥0 e = absurd (false≢true e)
asks-zero <0 e = absurd (false≢true e)
asks-zero ≠0 e = (refl, (refl, refl))
asks-zero ≤0 e = absurd (false≢true e)
asks-zero any e = (refl, (refl, refl))

-- U asks for the mirrored set
pub asked-mirrored : (k : Kind) → mirror (named (asked L k)) ≡ named (asked U k)
unfolding open_signs
asked-mirrored ∅ = refl
asked-mirrored >0 = refl
asked-mirrored =0 = refl
asked-mirrored ≥0 = refl
asked-mirrored <0 = refl
asked-mirrored ≠0 = refl
asked-mirrored ≤0 = refl
asked-mirrored any = refl
