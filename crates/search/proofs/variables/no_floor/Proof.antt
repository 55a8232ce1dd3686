-- `no_floor` meets its contract.
use mathlib.Core.Path.{◌≡◌, refl}
use Prim.Native.Nat.{ℕ, zero, suc}
use lib.ListN.{get_or, replicate}
use Rattle.search.proofs.variables.no_floor.Statement.{statement}
use Rattle.search.proofs.variables.no_floor.Tie as tie

nothing-at : (n i : ℕ) → ◌≡◌ {A = ℕ} (get_or (replicate n 0) i 0) 0
nothing-at zero i = refl
nothing-at (suc n) zero = refl
nothing-at (suc n) (suc i) = nothing-at n i

pub no_floor_spec : {M : Type 1} → statement M
no_floor_spec = tie.close (tie.spec (λ c. record { variables = refl; sets = λ i h. nothing-at 16 i }))
