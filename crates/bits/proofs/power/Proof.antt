-- `bits::power` meets its contract: below 2 ^ 64 the shift loses nothing.
use native.Mathlib.Nat.{one-mul, mod-eq_of_lt}
use lib.Pow.{pow-lt}
use borrow.Author.Rules.{rules}
use Rattle.bits.proofs.power.Statement.{statement}
use Rattle.bits.proofs.power.Tie as tie

pub power_spec : {M : Type 1} → statement M
power_spec = tie.close (tie.spec (λ c. search rules) (λ c. rw (one-mul, mod-eq_of_lt (pow-lt c.requires))))
