-- `pairs::placed` meets its contract: four bits for each variable that follows, and nothing is shifted out.
use mathlib.Core.Path.{ap, ◌∙◌}
use Prim.Native.Nat.{ℕ, ◌*◌}
use native.Mathlib.Omega.{arith}
use lib.Pow.{shl_exact}
use borrow.Author.Rules.{rules}
use Rattle.block_laws.specs.Pairs.{four-bits-each}
use Rattle.pairs.proofs.placed.Statement.{statement}
use Rattle.pairs.proofs.placed.Tie as tie

returns : tie.Need-returns
returns c =
    let a = c.args in
    shl_exact 4 (4 * a.followers) 64 c.requires.0 (omega arith) ∙ ap (λ (k : ℕ). a.exponent * k) (four-bits-each a.followers)

pub placed_spec : {M : Type 1} → statement M
placed_spec = tie.close (tie.spec (λ c. search rules) (λ c. search rules) returns)
