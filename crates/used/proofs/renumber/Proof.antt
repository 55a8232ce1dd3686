-- `used::renumber` meets its contract.
use Prim.Native.Nat.{◌/◌}
use native.Mathlib.Omega.{arith}
use borrow.Author.Rules.{rules}
use borrow.Author.Tests.{lt-ltb, le-ltb}
use Rattle.used.specs.FirstUse.{atom_or, renumbered}
use Rattle.used.proofs.renumber.Statement.{statement}
use Rattle.used.proofs.renumber.Tie as tie

returns : tie.Need-returns-then-token-ge-JOIN
unfolding renumbered atom_or
returns c = rw (le-ltb c.before.args.token 16777216 c.if-token-ge-JOIN.true)

returns-2 : tie.Need-returns
unfolding renumbered atom_or
returns-2 c = rw (lt-ltb c.before.before.args.token 16777216 c.before.if-token-ge-JOIN.false)

pub renumber_spec : {M : Type 1} → statement M
renumber_spec =
    tie.close
    (tie.spec returns (λ c. search rules)
    (λ c. omega (arith, c.before.before.requires.0 c.before.if-token-ge-JOIN.false))
    (λ c. omega (arith, c.shared_slice_known-1.given (c.before.before.args.token / 8)))
    (λ c. omega (arith, c.shared_slice_known-1.given (c.before.before.args.token / 8)))
    (λ c. omega (arith, c.shared_slice_known-1.given (c.before.before.args.token / 8)))
    returns-2)
