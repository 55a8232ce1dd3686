-- `kept` meets its contract.
use mathlib.Core.Path.{◌≡◌, refl}
use Prim.Native.Nat.{ℕ, zero, suc}
use Rattle.rules.specs.Pool.{unless_none}
use Rattle.pool.proofs.kept.Statement.{statement}
use Rattle.pool.proofs.kept.Tie as tie

none : (k n : ℕ) → k ≡ 0 → 0 ≡ unless_none k n
unfolding unless_none
none k n e = rw e

some : (k n : ℕ) → (k ≡ 0 → ⊥) → n ≡ unless_none k n
unfolding unless_none
some zero n e = absurd (e refl)
some (suc k) n e = refl

returns : tie.Need-returns-then-left-eq0
returns c = none _ _ c.if-left-eq0.true

returns-2 : tie.Need-returns
returns-2 c = some _ _ c.if-left-eq0.false

pub kept_spec : {M : Type 1} → statement M
kept_spec = tie.close (tie.spec returns returns-2)
