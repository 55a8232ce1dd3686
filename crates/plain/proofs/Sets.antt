-- Which sign of t is wanted, for each sign set by its number; and one sign in a set.
use mathlib.Core.Path.{◌≡◌, refl}
use mathlib.Core.Bool.{Bool, true, false, not}
use mathlib.Core.List.{[], ◌∷◌}
use mathlib.Core.Logic.{inl, inr}
use Prim.Native.Nat.{ℕ, ◌+◌, ◌*◌}
use lib.Dec.{eqb}
use types.Run.{OneOf}
use Rattle.rules.specs.Signs.{Sign, negative, nought, positive, SignSet, only, has, kind, inside, bit, set_of, intersect}
use Rattle.rules.specs.Plain.{wanted_l, is_not0}
use Rattle.interval.specs.Kinds.{by-kind}

pub wanted_up : (k : ℕ) → OneOf (4 ∷ 6 ∷ []) k → 3 ≡ wanted_l (kind k)
unfolding kind wanted_l
wanted_up k (inl e) = rw e
wanted_up k (inr e) = rw e

pub wanted-down : (k : ℕ) → OneOf (1 ∷ 3 ∷ []) k → 6 ≡ wanted_l (kind k)
unfolding kind wanted_l
wanted-down k (inl e) = rw e
wanted-down k (inr e) = rw e

pub wanted-any : (k : ℕ) → k ≡ 2 → 7 ≡ wanted_l (kind k)
unfolding kind wanted_l
wanted-any k e = rw e

pub wanted-none : (k : ℕ) → (OneOf (4 ∷ 6 ∷ []) k → ⊥) → (OneOf (1 ∷ 3 ∷ []) k → ⊥) → (k ≡ 2 → ⊥) → 0 ≡ wanted_l (kind k)
unfolding wanted_l
wanted-none = by-kind (λ k s. (OneOf (4 ∷ 6 ∷ []) k → ⊥) → (OneOf (1 ∷ 3 ∷ []) k → ⊥) → (k ≡ 2 → ⊥) → 0 ≡ wanted_l s)
    (λ f g h. refl) (λ f g h. absurd (g (inl refl))) (λ f g h. absurd (h refl)) (λ f g h. absurd (g (inr refl)))
    (λ f g h. absurd (f (inl refl))) (λ f g h. refl) (λ f g h. absurd (f (inr refl))) (λ k f g h. refl)

-- ---- one sign in a set

one_bit : (b : Bool) → (eqb (bit b * 4 + 0 * 2 + 0) 4 ≡ b) × (eqb (0 * 4 + bit b * 2 + 0) 2 ≡ b) × (eqb (0 * 4 + 0 * 2 + bit b) 1 ≡ b)
unfolding bit
one_bit true = (refl, refl, refl)
one_bit false = (refl, refl, refl)

pub inside_one : (x : Sign) (a : SignSet) → inside (only x) a ≡ has x a
unfolding inside intersect set_of has only bit
inside_one negative a = (one_bit (has negative a)).0
inside_one nought a = (one_bit (has nought a)).1
inside_one positive a = (one_bit (has positive a)).2

pub not-nought : (x : Sign) → not (eqb (only x) 2) ≡ is_not0 x
unfolding is_not0 has only
not-nought negative = refl
not-nought nought = refl
not-nought positive = refl
