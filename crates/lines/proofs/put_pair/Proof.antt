-- `put_pair` meets its contract.
use mathlib.Core.Path.{ap₂}
use mathlib.Core.List.{[], ◌∷◌}
use Prim.Native.Nat.{ℕ}
use borrow.Author.Rules.{rules}
use Rattle.rules.specs.Report.{hex_pair}
use Rattle.lines.specs.Written.{wrote-both, wrote_as}
use Rattle.lines.proofs.put_pair.Statement.{statement}
use Rattle.lines.proofs.put_pair.Tie as tie

returns : tie.Need-returns
unfolding hex_pair
returns c =
    let second = c.before.before.before in
    let first = c.before.before.before.before.before.before.before in
    wrote_as (wrote-both first.put_byte-second.ensures c.before.before.put_byte.ensures)
    (ap₂ (λ (d e : ℕ). d ∷ e ∷ []) first.before.hex_digit.ensures second.hex_digit-2.ensures)

pub put_pair_spec : {M : Type 1} → statement M
put_pair_spec =
    tie.close
    (tie.spec (λ c κs. search rules) (λ c κs. search rules) (λ c κs. search rules) (λ c κs. search rules) (λ c. search rules) returns)
