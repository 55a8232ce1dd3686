-- Laws about a sign set by its number: what holds of each kind holds of each number, and which sets are > and <.
-- The code matches on the number; the book goes by the kind of that number.
use Rattle.std.specs.Prelude.{◌≡◌, refl, true, false, [], ◌∷◌, ℕ, zero, suc}
use Rattle.std.proofs.Common.{inl, inr}
use Rattle.rules.specs.Signs.{Kind, ∅, >0, =0, ≥0, <0, ≠0, ≤0, any, kind}
use types.Run.{OneOf}
use Rattle.rules.specs.Deduce.{is_strict}

-- what holds of each kind under its number holds of each number
pub by-kind : (P : ℕ → Kind → Type 0) → P 0 ∅ → P 1 >0 → P 2 =0 → P 3 ≥0 → P 4 <0 → P 5 ≠0 → P 6 ≤0 → ((k : ℕ) → P (suc (suc (suc (suc (suc (suc (suc k))))))) any)
    → (k : ℕ) → P k (kind k)
unfolding kind
by-kind P a b c d e f g h zero = a
by-kind P a b c d e f g h (suc zero) = b
by-kind P a b c d e f g h (suc (suc zero)) = c
by-kind P a b c d e f g h (suc (suc (suc zero))) = d
by-kind P a b c d e f g h (suc (suc (suc (suc zero)))) = e
by-kind P a b c d e f g h (suc (suc (suc (suc (suc zero))))) = f
by-kind P a b c d e f g h (suc (suc (suc (suc (suc (suc zero)))))) = g
by-kind P a b c d e f g h (suc (suc (suc (suc (suc (suc (suc zero))))))) = h zero
by-kind P a b c d e f g h (suc (suc (suc (suc (suc (suc (suc (suc k)))))))) = h (suc k)

-- > and < are strict, and no other
pub strict-one : (k : ℕ) → OneOf (1 ∷ 4 ∷ []) k → is_strict (kind k) ≡ true
unfolding kind is_strict
strict-one k (inl e) = rw e
strict-one k (inr e) = rw e

pub strict_none : (k : ℕ) → (OneOf (1 ∷ 4 ∷ []) k → ⊥) → is_strict (kind k) ≡ false
unfolding is_strict
strict_none = by-kind (λ k s. (OneOf (1 ∷ 4 ∷ []) k → ⊥) → is_strict s ≡ false)
    (λ f. refl) (λ f. absurd (f (inl refl))) (λ f. refl) (λ f. refl) (λ f. absurd (f (inr refl))) (λ f. refl) (λ f. refl) (λ k f. refl)
