-- The monomials of the forms in the slots fall (crate sieve asks it).
use Rattle.std.specs.Prelude.{◌≡◌, List, ℕ, ◌+◌, ◌*◌, ◌<◌, ◌≤◌, length, get_or}
use Rattle.sieve.specs.Rows.{Falls}
use Rattle.table.specs.declared.Atoms.{Atoms}
use Rattle.table.specs.Table.{many}
use Rattle.round.specs.Signing.{atom_slot}

-- eighty slots of at most sixteen terms each
pub record SlotPlaces (ms ts : List ℕ) : Type 0 where
  pub monomials : length ms ≡ 1280
  pub counts : length ts ≡ 81
  pub few : (k : ℕ) → get_or ts k 0 ≤ 16

-- the monomials of the form in slot k fall
abbrev pub FallingSlot : List ℕ → List ℕ → ℕ → Type 0
FallingSlot ms ts k = Falls ms (16 * k) (16 * k + get_or ts k 0)

-- those of the forms of a list's atoms
pub record FallingList (ms ts : List ℕ) (a : Atoms) : Type 0 where
  pub each : (i : ℕ) → i < many a.count → FallingSlot ms ts (atom_slot a.number i)

-- those of the form in slot p too
pub record FallingAtoms (ms ts : List ℕ) (a : Atoms) (p : ℕ) : Type 0 where
  pub own : FallingSlot ms ts p
  pub atoms : FallingList ms ts a
