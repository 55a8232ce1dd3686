-- The t that q's set allows, by the number of that set: which cut of L and of U the code makes.
-- The code matches on the number; the book goes by the kind of that number.
use mathlib.Core.Path.{◌≡◌, refl}
use mathlib.Core.List.{[], ◌∷◌}
use mathlib.Core.Logic.{inl, inr}
use Prim.Native.Nat.{ℕ}
use types.Run.{OneOf}
use lib.IntN.{pos, negsuc}
use Rattle.rules.specs.Signs.{kind, open_signs}
use Rattle.rules.specs.Deduce.{Interval, cut_not_negative, no_t, has_t, found}
use Rattle.deduction_laws.specs.FractionSets.{L, U}
use Rattle.deduction_laws.specs.Vanishing.{Vanishing, only_allowed, found_by, finding_by}
use Rattle.interval.specs.Kinds.{by-kind}

module _ (k : ℕ) (l u : Interval) where
  -- > and ≥
  pub allowed-positive : OneOf (1 ∷ 3 ∷ []) k
      → (only_allowed L (kind k) l ≡ cut_not_negative (pos 0) (negsuc 0) l) × (only_allowed U (kind k) u ≡ cut_not_negative (pos 0) (pos 1) u)
  unfolding kind only_allowed
  allowed-positive (inl e) = rw e (refl, refl)
  allowed-positive (inr e) = rw e (refl, refl)

  -- < and ≤
  pub allowed-negative : OneOf (4 ∷ 6 ∷ []) k
      → (only_allowed L (kind k) l ≡ cut_not_negative (pos 0) (pos 1) l) × (only_allowed U (kind k) u ≡ cut_not_negative (pos 0) (negsuc 0) u)
  unfolding kind only_allowed
  allowed-negative (inl e) = rw e (refl, refl)
  allowed-negative (inr e) = rw e (refl, refl)

-- ≠ and full, and the empty set: nothing is found
pub allowed-none : (l u : Interval) (v : Vanishing) (k : ℕ) → (OneOf (1 ∷ 3 ∷ []) k → ⊥) → (OneOf (4 ∷ 6 ∷ []) k → ⊥) → (k ≡ 2 → ⊥) → 7 ≡ finding_by (kind k) l u v
unfolding only_allowed found_by found has_t no_t open_signs
allowed-none l u v = by-kind (λ k s. (OneOf (1 ∷ 3 ∷ []) k → ⊥) → (OneOf (4 ∷ 6 ∷ []) k → ⊥) → (k ≡ 2 → ⊥) → 7 ≡ finding_by s l u v)
    (λ f g h. refl) (λ f g h. absurd (f (inl refl))) (λ f g h. absurd (h refl)) (λ f g h. absurd (f (inr refl)))
    (λ f g h. absurd (g (inl refl))) (λ f g h. refl) (λ f g h. absurd (g (inr refl))) (λ k f g h. refl)
