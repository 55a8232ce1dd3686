-- `writer::exponents::exponent_of` meets its contract: four bits for each variable that follows.
use mathlib.Core.Path.{ap}
use Prim.Native.Nat.{ℕ, ◌/◌, ◌%◌}
use borrow.Author.Rules.{rules}
use Rattle.rules.specs.Polynomial.{exponent}
use Rattle.block_laws.specs.Pairs.{four-bits-each}
use Rattle.writer.proofs.exponents.exponent_of.Statement.{statement}
use Rattle.writer.proofs.exponents.exponent_of.Tie as tie

returns : tie.Need-returns
unfolding exponent
returns c = ap (λ (k : ℕ). c.args.monomial / k % 16) (four-bits-each c.args.followers)

pub exponent_of_spec : {M : Type 1} → statement M
exponent_of_spec = tie.close (tie.spec (λ c. search rules) (λ c. search rules) returns)
