-- Terms stored one after the other: what is left to store makes the whole run.
use mathlib.Core.List.{List, map}
use mathlib.Core.Path.{◌≡◌}
use Prim.Native.Nat.{ℕ, suc, ◌+◌, ◌-◌, ◌<◌, ◌≤◌}
use native.Mathlib.Numerals.{add-one}
use native.Mathlib.Omega.{arith}
use lib.IntN.{ℤ}
use lib.ListN.{set}
use lib.Seq.{sets}
use Rattle.rules.specs.Polynomial.{Term}
use Rattle.terms.specs.View.{term_at, terms_from}

module _ {A : Type 0} (part : Term → A) (vs : List ℤ) (ps : List ℕ) (from count : ℕ) where
  -- One part of each term from number i on, stored.
  abbrev pub stored_from : List A → ℕ → List A
  stored_from array i = sets array (from + i) (map part (terms_from vs ps i (count - i)))

  pub stored-step : (array : List A) (i : ℕ) (x : A) → i < count → x ≡ part (term_at vs ps i) → stored_from (set array (from + i) x)
      (i + 1) ≡ stored_from array i
  unfolding terms_from
  stored-step array i x h e =
      let left : count - i ≡ suc (count - (i + 1)) = omega arith in
      let a : from + (i + 1) ≡ suc (from + i) = omega arith in
      rw (left, a, e, add-one i)

  pub stored-end : (array : List A) (i : ℕ) → count ≤ i → stored_from array i ≡ array
  unfolding terms_from
  stored-end array i h = let none : count - i ≡ 0 = omega arith in rw none
