-- What one try finds, by the code's tests.
use mathlib.Core.Path.{◌≡◌, refl}
use mathlib.Core.Bool.{true, false, true≢false}
use mathlib.Core.List.{[], ◌∷◌}
use mathlib.Core.Logic.{inl, inr}
use Prim.Native.Nat.{ℕ, suc}
use native.Mathlib.Omega.{arith}
use types.Run.{OneOf}
use borrow.Author.Tests.{ltb-true, lt-leb}
use lib.Dec.{leb}
use lib.IntN.{ℤ, pos, negsuc}
use lib.Signed.{lt_z, non_neg}
use Rattle.rules.specs.Signs.{Kind, kind}
use Rattle.rules.specs.TwoAtoms.{non_positive, non_negative, never_positive, never_negative}
use Rattle.interval.specs.Kinds.{by-kind}

-- <, ≤ and = are never positive, and no other
pub some-positive : (k : ℕ) → OneOf (2 ∷ 4 ∷ 6 ∷ []) k → true ≡ non_positive (kind k)
unfolding kind non_positive
some-positive k (inl e) = rw e
some-positive k (inr (inl e)) = rw e
some-positive k (inr (inr e)) = rw e

pub none-positive : (k : ℕ) → (OneOf (2 ∷ 4 ∷ 6 ∷ []) k → ⊥) → false ≡ non_positive (kind k)
unfolding non_positive
none-positive = by-kind (λ k s. (OneOf (2 ∷ 4 ∷ 6 ∷ []) k → ⊥) → false ≡ non_positive s)
    (λ f. refl) (λ f. refl) (λ f. absurd (f (inl refl))) (λ f. refl) (λ f. absurd (f (inr (inl refl)))) (λ f. refl) (λ f. absurd (f (inr (inr refl))))
    (λ k f. refl)

-- >, ≥ and = are never negative, and no other
pub no_number : (k : ℕ) → k ≡ 0 → false ≡ non_negative (kind k)
unfolding kind non_negative
no_number k e = rw e

pub to-three : (k : ℕ) → (k ≡ 0 → ⊥) → leb k 3 ≡ non_negative (kind k)
unfolding non_negative
to-three = by-kind (λ k s. (k ≡ 0 → ⊥) → leb k 3 ≡ non_negative s)
    (λ f. absurd (f refl)) (λ f. refl) (λ f. refl) (λ f. refl) (λ f. refl) (λ f. refl) (λ f. refl)
    (λ k f. lt-leb (suc (suc (suc (suc (suc (suc (suc k))))))) 3 (omega arith))

-- the sign of the factor
below-zero : (u : ℤ) → lt_z u (pos 0) ≡ true → non_neg u ≡ false
below-zero (pos n) e = absurd (omega (arith, ltb-true n 0 e))
below-zero (negsuc n) e = refl

from-zero : (u : ℤ) → lt_z u (pos 0) ≡ false → non_neg u ≡ true
from-zero (pos n) e = refl
from-zero (negsuc n) e = absurd (true≢false e)

module _ (u : ℤ) (k : Kind) where
  pub positive-below : lt_z u (pos 0) ≡ true → non_negative k ≡ never_positive u k
  unfolding never_positive
  positive-below e = rw (below-zero u e)

  pub positive-from : lt_z u (pos 0) ≡ false → non_positive k ≡ never_positive u k
  unfolding never_positive
  positive-from e = rw (from-zero u e)

  pub negative-below : lt_z u (pos 0) ≡ true → non_positive k ≡ never_negative u k
  unfolding never_negative
  negative-below e = rw (below-zero u e)

  pub negative-from : lt_z u (pos 0) ≡ false → non_negative k ≡ never_negative u k
  unfolding never_negative
  negative-from e = rw (from-zero u e)
