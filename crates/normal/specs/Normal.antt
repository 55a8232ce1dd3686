-- 01, "Normal form", of the polynomial at a run of places: what the coefficients become, and whether they are negated.
-- The monomials stay, and no coefficient depends on them.
use Rattle.std.specs.Prelude.{Bool, true, false, List, [], ℕ, ◌^◌, ◌<◌, ◌≤◌, ℤ, pos, neg_ℤ, nat_abs, length, get_or}
use Rattle.std.specs.Int.Signed.{quot_z}
use Rattle.rules.specs.Signs.{SignSet, mirror}
use Rattle.rules.specs.Polynomial.{Polynomial, content, divided, first_is_negative}
use Rattle.terms.specs.View.{terms_of}
use Rattle.normal.specs.Stores.{stores}

-- What every function over a run asks of it: the reader's bound, "a 31-bit magnitude". So -2 ^ 31, whose negation has no place, does not stand there.
pub record Bounded (cs : List ℤ) (from to : ℕ) : Type 0 where
  pub there : to ≤ length cs
  pub magnitude : (i : ℕ) → from ≤ i → i < to → nat_abs (get_or cs i (pos 0)) < 2 ^ 31

-- The run with its coefficients alone.
abbrev pub coefficients : List ℤ → ℕ → ℕ → Polynomial
coefficients cs from to = terms_of cs [] from to

-- "Divide by": the quotients go to the same places of another array.
abbrev pub divided_run : ℕ → List ℤ → List ℤ → ℕ → ℕ → List ℤ
divided_run by cs target from to = stores (pos 0) (λ i. i) (λ i x. quot_z (get_or cs i (pos 0)) (pos by)) target from to

-- "negate all"
abbrev pub negated_run : List ℤ → ℕ → ℕ → List ℤ
negated_run cs from to = stores (pos 0) (λ i. i) (λ i x. neg_ℤ x) cs from to

-- The run negated if it is to be.
unfoldable pub turned_run : Bool → List ℤ → ℕ → ℕ → List ℤ
turned_run true cs from to = negated_run cs from to
turned_run false cs from to = cs

-- "if the first coefficient is negative"
unfoldable pub is_turned : List ℤ → ℕ → ℕ → Bool
is_turned cs from to = first_is_negative (divided (coefficients cs from to))

-- The normal form of the run of cs, in the same places of target.
unfoldable pub normal_run : List ℤ → List ℤ → ℕ → ℕ → List ℤ
normal_run cs target from to = turned_run (is_turned cs from to) (divided_run (content (coefficients cs from to)) cs target from to) from to

-- "and mirror the atom's set"
unfoldable pub turned_set : Bool → SignSet → SignSet
turned_set true s = mirror s
turned_set false s = s
