-- The index behind the last atom with the empty set, token by token.
use mathlib.Core.Path.{◌≡◌, sym, ◌∙◌, ap}
use mathlib.Core.List.{List}
use mathlib.Core.Logic.{dite}
use Prim.Native.Nat.{ℕ, ◌+◌, ◌%◌, ◌<◌, ◌≤◌}
use native.Mathlib.Decide.{dec_lt}
use native.Mathlib.Omega.{arith}
use lib.ListN.{get_or}

-- up to i
pub record Sofar (l : List ℕ) (behind i : ℕ) : Type 0 where
  pub most : behind ≤ i
  pub filled : (j : ℕ) → behind ≤ j → j < i → get_or l j 0 % 8 ≡ 0 → ⊥
  pub last : (k : ℕ) → behind ≡ k + 1 → get_or l k 0 % 8 ≡ 0

pub sofar-none : (l : List ℕ) → Sofar l 0 0
sofar-none l = record { most = omega arith; filled = λ j h k z. absurd (omega arith); last = λ k e. absurd (omega arith) }

pub sofar-empty : {l : List ℕ} {behind i : ℕ} → Sofar l behind i → get_or l i 0 % 8 ≡ 0 → Sofar l (i + 1) (i + 1)
sofar-empty {l} {behind} {i} s e = record {
  most = omega arith;
  filled = λ j h k z. absurd (omega arith);
  last = λ k h. let same : k ≡ i = omega arith in ap (λ (j : ℕ). get_or l j 0 % 8) same ∙ e;
}

pub sofar-filled : {l : List ℕ} {behind i : ℕ} → Sofar l behind i → (get_or l i 0 % 8 ≡ 0 → ⊥) → Sofar l behind (i + 1)
sofar-filled {l} {behind} {i} s e = record {
  most = omega (arith, s.most);
  filled = λ j h k z. dite (dec_lt j i) (λ low. s.filled j h low z)
      (λ high. let same : j ≡ i = omega arith in e (ap (λ (j : ℕ). get_or l j 0 % 8) (sym same) ∙ z));
  last = s.last;
}
