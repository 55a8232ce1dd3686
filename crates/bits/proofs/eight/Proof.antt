-- `bits::eight` meets its contract.
use Prim.Native.Nat.{◌+◌, ◌*◌, ◌<◌}
use native.Mathlib.Omega.{arith}
use lib.ListN.{drop}
use borrow.Author.Rules.{rules}
use Rattle.rules.specs.Bits.{unpack}
use Rattle.bits.proofs.Words.{below, eight-bytes}
use Rattle.bits.proofs.eight.Statement.{statement}
use Rattle.bits.proofs.eight.Tie as tie

upper-small : (c : tie.After-four) → c.four.result < 4294967296
upper-small c = let a = c.before.before.args in below 32 (drop (8 * a.i) (unpack a.src.now)) (omega arith) c.four.ensures

lower-small : (c : tie.After-four-2) → c.four-2.result < 4294967296
lower-small c = let a = c.before.before.before.args in below 32 (drop (8 * (a.i + 4)) (unpack a.src.now)) (omega arith) c.four-2.ensures

pub eight_spec : {M : Type 1} → statement M
eight_spec =
    tie.close
    (tie.spec (λ c κs. search rules) (λ c. omega (arith, upper-small c)) (λ c. search rules) (λ c κs. search rules)
    (λ c. omega (arith, upper-small c.before, lower-small c))
    (λ c. let s = c.before.before.before in eight-bytes s.args.src.now s.args.i s.requires c.before.four.ensures c.four-2.ensures))
