-- The variable that a slot holds: `which` of the book, from the slot's count of terms, its first coefficient and its first monomial.
-- The monomial is compared with those of the variables' own slots.
use mathlib.Core.Path.{◌≡◌, refl, ap, ◌∙◌}
use mathlib.Core.Bool.{Bool, true, false, ◌&&◌, and-false, and-true}
use mathlib.Core.List.{List, [], ◌∷◌}
use mathlib.Core.Option.{none, some}
use Prim.Native.Nat.{ℕ, zero, suc, ◌+◌, ◌-◌, ◌*◌, ◌^◌, ◌<◌}
use native.Mathlib.Omega.{arith}
use borrow.Author.Tests.{ne_eqb}
use lib.Dec.{eqb}
use lib.IntN.{ℤ, pos, negsuc}
use lib.ListN.{get_or}
use mir.Syntax.{w32}
use mir.Val.{SFits, of_z}
use Rattle.rules.specs.Polynomial.{Polynomial, same_number, same, variable, first_of, which_of}
use Rattle.terms.specs.View.{terms_from}
use Rattle.table.specs.Table.{Table, Forms, form_at}

-- ---- a coefficient of 32 bits is 1 exactly if its bits are

pub one-bits : (z : ℤ) → SFits w32 z → of_z w32 z ≡ 1 → z ≡ pos 1
one-bits (pos n) f e = ap pos e
one-bits (negsuc n) f e = let h : 4294967296 - suc n ≡ 1 = e in absurd (omega (arith, f.sfits))

pub other-bits : (z : ℤ) → (of_z w32 z ≡ 1 → ⊥) → same_number z (pos 1) ≡ false
unfolding same_number
other-bits (pos n) e = ne_eqb n 1 e
other-bits (negsuc n) e = refl

-- ---- the polynomial of a slot beside a variable

module _ (cs : List ℤ) (ms : List ℕ) (at : ℕ) where
  -- the first term against the term of a variable
  first-same : ℕ → ℕ → Bool
  first-same n i = eqb (get_or ms at 0) (16 ^ (n - suc i)) && same_number (get_or cs at (pos 0)) (pos 1)

  other-count : (k n i : ℕ) → (k ≡ 1 → ⊥) → same (terms_from cs ms at k) (variable n i) ≡ false
  unfolding same variable terms_from first-same
  other-count zero n i e = refl
  other-count (suc zero) n i e = absurd (e refl)
  other-count (suc (suc k)) n i e = and-false (first-same n i)

  one-term : (k n i : ℕ) → k ≡ 1 → same (terms_from cs ms at k) (variable n i) ≡ first-same n i
  unfolding same variable terms_from first-same
  one-term zero n i e = absurd (omega arith)
  one-term (suc zero) n i e = and-true (first-same n i)
  one-term (suc (suc k)) n i e = absurd (omega arith)

  first-monomial : (k n i : ℕ) → terms_from cs ms at k ≡ variable n i → get_or ms at 0 ≡ 16 ^ (n - suc i)
  unfolding variable terms_from
  first-monomial zero n i e = absurd (let z : ◌≡◌ {A = ℕ} 0 1 = cc in omega arith)
  first-monomial (suc k) n i e = ap monomial-of e
    where
      monomial-of : Polynomial → ℕ
      monomial-of [] = 0
      monomial-of (x ∷ xs) = x.monomial

module _ (t : Table) (k : ℕ) where
  -- a slot with another number of terms than one, or with another coefficient than 1, holds no variable
  pub several-terms : (get_or t.terms k 0 ≡ 1 → ⊥) → (i : ℕ) → same (form_at t k) (variable t.variables i) ≡ false
  unfolding form_at
  several-terms e i = other-count t.coefficient t.monomial (16 * k) (get_or t.terms k 0) t.variables i e

  pub other-coefficient : get_or t.terms k 0 ≡ 1 → same_number (get_or t.coefficient (16 * k) (pos 0)) (pos 1) ≡ false
      → (i : ℕ) → same (form_at t k) (variable t.variables i) ≡ false
  unfolding form_at first-same
  other-coefficient e c i =
      one-term t.coefficient t.monomial (16 * k) (get_or t.terms k 0) t.variables i e
      ∙ rw c (and-false (eqb (get_or t.monomial (16 * k) 0) (16 ^ (t.variables - suc i))))

  -- else it is the variable whose slot has the same monomial
  pub by-monomial : Forms t → get_or t.terms k 0 ≡ 1 → get_or t.coefficient (16 * k) (pos 0) ≡ pos 1 → (i : ℕ) → i < t.variables
      → same (form_at t k) (variable t.variables i) ≡ eqb (get_or t.monomial (16 * k) 0) (get_or t.monomial (16 * (64 + i)) 0)
  unfolding form_at same_number first-same
  by-monomial forms e c i h =
      let slot = 64 + i in
      let m : get_or t.monomial (16 * slot) 0 ≡ 16 ^ (t.variables - suc i) =
      first-monomial t.coefficient t.monomial (16 * slot) (get_or t.terms slot 0) t.variables i (forms.each_variable i h) in
      one-term t.coefficient t.monomial (16 * k) (get_or t.terms k 0) t.variables i e
      ∙ rw (c, m) (and-true (eqb (get_or t.monomial (16 * k) 0) (16 ^ (t.variables - suc i))))

-- ---- the walk over the variables, from the last

module _ (n : ℕ) (p : Polynomial) where
  pub no-variable : ((i : ℕ) → same p (variable n i) ≡ false) → (i : ℕ) → which_of n i p ≡ none
  unfolding which_of first_of
  no-variable none-same zero = refl
  no-variable none-same (suc i) = rw (none-same i) (no-variable none-same i)

  pub this-variable : (i : ℕ) → 0 < i → same p (variable n (i - 1)) ≡ true → which_of n i p ≡ some (i - 1)
  unfolding which_of first_of
  this-variable zero h e = absurd (omega arith)
  this-variable (suc i) h e = let one : suc i - 1 ≡ i = omega arith in rw one (simp (rw one at e))

  pub another-variable : (i : ℕ) → 0 < i → same p (variable n (i - 1)) ≡ false → which_of n i p ≡ which_of n (i - 1) p
  unfolding which_of first_of
  another-variable zero h e = absurd (omega arith)
  another-variable (suc i) h e = let one : suc i - 1 ≡ i = omega arith in rw one (simp (rw one at e))
