-- The walks that compare and search, one place at a time: the terms of two runs, and the first number that passes a test.
-- Then what the first is: it passes, and none before it does.
use mathlib.Core.Path.{◌≡◌, refl, sym, ap, ◌∙◌}
use mathlib.Core.Bool.{Bool, true, false, cond, ◌&&◌}
use mathlib.Core.List.{List}
use mathlib.Core.Logic.{⊎_elim}
use Prim.Native.Nat.{ℕ, zero, suc, ◌+◌, ◌-◌, ◌<◌, ◌≤◌}
use native.Mathlib.Nat.{eq-or-lt_of_le}
use native.Mathlib.Numerals.{add-one}
use native.Mathlib.Omega.{arith}
use lib.IntN.{ℤ}
use Rattle.rules.specs.Polynomial.{same}
use Rattle.terms.specs.View.{terms_from}
use Rattle.sign_laws.specs.Booleans.{and-false}
use Rattle.forms.specs.Slots.{slot_of, same_term, first_from, number_of}

-- ---- Two runs.

-- Whether what is left of two runs is the same, from place i of each on.
abbrev pub same_left : List ℤ → List ℕ → ℕ → ℕ → ℕ → ℕ → Bool
same_left cs ms first second i count = same (terms_from cs ms (first + i) (count - i)) (terms_from cs ms (second + i) (count - i))

module _ (cs : List ℤ) (ms : List ℕ) (first second i count : ℕ) where
  same_step : i < count → same_left cs ms first second i count ≡ (same_term cs ms (first + i) (second + i) && same_left cs ms first second (i + 1) count)
  unfolding same terms_from
  same_step h =
      let left : count - i ≡ suc (count - (i + 1)) = omega arith in
      let a : suc (first + i) ≡ first + (i + 1) = omega arith in
      let b : suc (second + i) ≡ second + (i + 1) = omega arith in
      rw (left, a, b)

  -- Equal terms: as what is left behind them.
  pub same-goes-on : i < count → same_term cs ms (first + i) (second + i) ≡ true → same_left cs ms first second (i + 1) count ≡ same_left cs ms first second i count
  same-goes-on h e = sym (same_step h ∙ ap (λ (t : Bool). t && same_left cs ms first second (i + 1) count) e)

  -- Different terms: not the same.
  pub same-stops : i < count → same_term cs ms (first + i) (second + i) ≡ false → false ≡ same_left cs ms first second i count
  same-stops h e = sym (same_step h ∙ ap (λ (t : Bool). t && same_left cs ms first second (i + 1) count) e)

  -- Nothing left: the same.
  pub same_end : count ≤ i → true ≡ same_left cs ms first second i count
  unfolding same terms_from
  same_end h = let none : count - i ≡ 0 = omega arith in rw none

-- Runs of different length are not the same.
pub other-count : (cs : List ℤ) (ms : List ℕ) (a b k n : ℕ) → (k ≡ n → ⊥) → false ≡ same (terms_from cs ms a k) (terms_from cs ms b n)
unfolding same terms_from
other-count cs ms a b zero zero h = absurd (h refl)
other-count cs ms a b zero (suc n) h = refl
other-count cs ms a b (suc k) zero h = refl
other-count cs ms a b (suc k) (suc n) h = sym (and-false (same_term cs ms a b))
    ∙ ap (λ (t : Bool). same_term cs ms a b && t) (other-count cs ms (suc a) (suc b) k n (λ e. h (ap suc e)))

-- ---- The first that passes.

-- Whether slot j has the form of slot i.
abbrev pub alike : List ℤ → List ℕ → List ℕ → ℕ → ℕ → Bool
alike cs ms ts i j = same (slot_of cs ms ts j) (slot_of cs ms ts i)

module _ (test : ℕ → Bool) where
  -- A number that fails is passed over.
  pub first_step : (i to : ℕ) → i < to → test i ≡ false → first_from test i (to - i) ≡ first_from test (i + 1) (to - (i + 1))
  unfolding first_from
  first_step i to h fails = let left : to - i ≡ suc (to - (i + 1)) = omega arith in rw (left, add-one i, fails)

  -- A number that passes is the first.
  pub first_found : (i to : ℕ) → i < to → test i ≡ true → first_from test i (to - i) ≡ i
  unfolding first_from
  first_found i to h passes = let left : to - i ≡ suc (to - (i + 1)) = omega arith in rw (left, passes)

  -- None left: the number behind.
  pub first-none : (i to : ℕ) → to ≤ i → first_from test i (to - i) ≡ i
  unfolding first_from
  first-none i to h = let none : to - i ≡ 0 = omega arith in rw none

  -- It is one of the numbers, or the one behind them.
  pub first-within : (i k : ℕ) → (i ≤ first_from test i k) × (first_from test i k ≤ i + k)
  unfolding first_from
  first-within i zero = (omega arith, omega arith)
  first-within i (suc k) = by-test (test i) (first-within (suc i) k)
    where
      by-test : (b : Bool) → (suc i ≤ first_from test (suc i) k) × (first_from test (suc i) k ≤ suc i + k)
          → (i ≤ cond b i (first_from test (suc i) k)) × (cond b i (first_from test (suc i) k) ≤ i + suc k)
      by-test true later = (omega arith, omega arith)
      by-test false later = (omega arith, omega arith)

  -- If it is one of the numbers, it passes.
  pub first_passes : (i k : ℕ) → first_from test i k < i + k → test (first_from test i k) ≡ true
  unfolding first_from
  first_passes i zero h = absurd (omega arith)
  first_passes i (suc k) h = by-test (test i) refl (first_passes (suc i) k) h
    where
      by-test : (b : Bool) → test i ≡ b → (first_from test (suc i) k < suc i + k → test (first_from test (suc i) k) ≡ true)
          → cond b i (first_from test (suc i) k) < i + suc k → test (cond b i (first_from test (suc i) k)) ≡ true
      by-test true e later h = e
      by-test false e later h = later (omega arith)

  -- And none before it passes.
  pub first-first : (i k j : ℕ) → i ≤ j → j < first_from test i k → test j ≡ false
  unfolding first_from
  first-first i zero j h m = absurd (omega arith)
  first-first i (suc k) j h m = by-test (test i) refl (first-first (suc i) k j) m
    where
      by-test : (b : Bool) → test i ≡ b → (suc i ≤ j → j < first_from test (suc i) k → test j ≡ false) → j < cond b i (first_from test (suc i) k) → test j ≡ false
      by-test true e later m = absurd (omega arith)
      by-test false e later m = ⊎_elim (λ (n : i ≡ j). rw n at e) (λ (n : i < j). later n m) (eq-or-lt_of_le h)

  -- Where none passes, it is the one behind them.
  pub first-behind : (i k : ℕ) → ((j : ℕ) → i ≤ j → j < i + k → test j ≡ false) → first_from test i k ≡ i + k
  unfolding first_from
  first-behind i zero fails = omega arith
  first-behind i (suc k) fails = rw (fails i (omega arith) (omega arith)) (first-behind (suc i) k (λ j h m. fails j (omega arith) (omega arith)) ∙ omega arith)

-- The number of a slot is its own or one before it.
pub number-within : (cs : List ℤ) (ms ts : List ℕ) (i : ℕ) → number_of cs ms ts i ≤ i
unfolding number_of
number-within cs ms ts i = omega (arith, (first-within (λ j. same (slot_of cs ms ts j) (slot_of cs ms ts i)) 0 i).1)
