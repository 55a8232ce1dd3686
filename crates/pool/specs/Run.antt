-- A form that is lent: a run of at most sixteen places of two arrays.
use Rattle.std.specs.Prelude.{◌≡◌, List, ℕ, ◌+◌, ◌≤◌, ◌<◌, ℤ, Option, IfSome, unwrap_or, length}

pub record Run (cs : List ℤ) (ms : List ℕ) (from count : ℕ) : Type 0 where
  pub coefficients : from + count ≤ length cs
  pub monomials : from + count ≤ length ms
  pub few : count ≤ 16

-- The slot at a place, none where the place is that behind all 128 slots.
pub record SlotIs (slot : Option ℕ) (place : ℕ) : Type 0 where
  pub is : unwrap_or slot 128 ≡ place
  pub below : IfSome slot (λ k. k < 128)
