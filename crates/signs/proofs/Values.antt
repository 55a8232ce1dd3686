-- A formula over sign sets is the rule, if its values at the eight sets, or at the 64 pairs of sets, are the rule's: one computed test, `refl`.
-- The formula is found in the goal: `at_one` and `at-two` are told what it is, once the sets' remainders by 8 are given names.
use mathlib.Core.Path.{◌≡◌, refl, sym, ap, ◌∙◌}
use mathlib.Core.List.{List, [], ◌∷◌}
use Prim.Native.Nat.{ℕ, zero, suc, ◌%◌, ◌<◌}
use native.Mathlib.Omega.{arith}
use lib.ListN.{get_or}

-- the values of f at the numbers below n
abbrev pub values : {A : Type 0} → ℕ → (ℕ → A) → List A
values zero f = []
values (suc n) f = f 0 ∷ values n (λ (k : ℕ). f (suc k))

at_value : {A : Type 0} (n : ℕ) (f : ℕ → A) (k : ℕ) (other : A) → k < n → get_or (values n f) k other ≡ f k
at_value zero f k other h = absurd (omega arith)
at_value (suc n) f zero other h = refl
at_value (suc n) f (suc k) other h = at_value n (λ (j : ℕ). f (suc j)) k other (omega arith)

-- functions with the same values below n agree there
same_at : {A : Type 0} (n : ℕ) (f g : ℕ → A) (k : ℕ) → A → values n f ≡ values n g → k < n → f k ≡ g k
same_at n f g k other same h = sym (at_value n f k other h) ∙ ap (λ (l : List _). get_or l k other) same ∙ at_value n g k other h

-- For a rule that reads the remainders by 8 alone: r is a formula f, if with names for the remainders whatever is so of r is so of f.
pub at_one : {A : Type 0} {r : A} {f : ℕ → A} (rule : ℕ → A) → ((a : ℕ) → rule (a % 8) ≡ rule a) → (a : ℕ) →
    ((x : ℕ) → a % 8 ≡ x → (So : A → Type 0) → So r → So (f x)) → values 8 f ≡ values 8 rule → r ≡ rule a
at_one {r = r} {f = f} rule remainder a is same =
    is (a % 8) refl (λ n. r ≡ n) refl ∙ same_at 8 f rule (a % 8) r same (omega arith) ∙ remainder a

-- the values at each two sets
abbrev pub pairs : (ℕ → ℕ → ℕ) → List (List ℕ)
pairs f = values 8 (λ (x : ℕ). values 8 (f x))

pub at-two : {r : ℕ} {f : ℕ → ℕ → ℕ} (rule : ℕ → ℕ → ℕ) → ((a b : ℕ) → rule (a % 8) (b % 8) ≡ rule a b) → (a b : ℕ) →
    ((x y : ℕ) → a % 8 ≡ x → b % 8 ≡ y → (So : ℕ → Type 0) → So r → So (f x y)) → pairs f ≡ pairs rule → r ≡ rule a b
at-two {r = r} {f = f} rule remainder a b is same =
    let row = same_at 8 (λ (x : ℕ). values 8 (f x)) (λ (x : ℕ). values 8 (rule x)) (a % 8) [] same (omega arith) in
    is (a % 8) (b % 8) refl refl (λ (n : ℕ). r ≡ n) refl ∙ same_at 8 (f (a % 8)) (rule (a % 8)) (b % 8) 0 row (omega arith) ∙ remainder a b
