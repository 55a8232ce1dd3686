-- `next` meets its contract: the zeros below the lowest bit of the word without its first j.
use borrow.Author.Rules.{rules}
use Prim.Native.Nat.{◌/◌, ◌^◌}
use native.Mathlib.Omega.{arith}
use lib.Count.{trailing_le}
use Rattle.columns.specs.Columns.{next_here, next-none, next-lowest}
use Rattle.columns.proofs.next.Statement.{statement}
use Rattle.columns.proofs.next.Tie as tie

cast-result : tie.Need-overflow_cast-result
cast-result c = let d = c.before.before.args in let h = trailing_le 64 (d.word / 2 ^ d.j) in search rules

add-result : tie.Need-overflow_add-result
add-result c = let d = c.before.before.args in let h = trailing_le 64 (d.word / 2 ^ d.j) in search rules

pub next_spec : {M : Type 1} → statement M
next_spec =
    tie.close
    (tie.spec (λ c. next_here _ _ _) (λ c. search rules) (λ c. next-none _ _ _ (omega arith) c.if-rest-eq0.true)
    cast-result add-result (λ c. next-lowest _ _ _))
