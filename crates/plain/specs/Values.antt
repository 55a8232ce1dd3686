-- A value of the code as the book's fraction, and how large its terms are.
use Rattle.std.specs.Prelude.{◌≡◌, ℕ, ◌≤◌, ℤ, nat_abs}
use Rattle.rules.specs.Deduce.{Fraction, denominator, at}
use Rattle.plain_laws.specs.Bounds.{largest, Small}
use Rattle.interval.specs.declared.interval.End.{End as KeptEnd}
use Rattle.interval.specs.Ends.{end_of}
use Rattle.plain.specs.declared.value.Value.{Value}

-- v is t
pub record Is (v : Value) (t : Fraction) : Type 0 where
  pub c : v.c ≡ t.numerator
  pub d : v.d ≡ denominator t

-- v is a fraction, with terms of at most this magnitude
pub record Held (most : ℕ) (v : Value) : Type 0 where
  pub t : Fraction
  pub is : Is v t
  pub small : Small most t

-- a listed fraction that is there has terms of the magnitude of coefficients
pub record SmallEnd (e : KeptEnd) : Type 0 where
  pub small : (t : Fraction) → end_of e ≡ at t → Small largest t

pub record SmallPair (a b : ℤ) : Type 0 where
  pub first : nat_abs a ≤ largest
  pub second : nat_abs b ≤ largest
