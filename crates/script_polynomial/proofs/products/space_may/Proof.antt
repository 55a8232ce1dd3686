-- `space_may` meets its contract.
use Prim.Native.Nat.{◌%◌}
use native.Mathlib.Omega.{arith}
use borrow.Author.Tests.{eq-eqb, ne_eqb, lt-ltb, le-ltb}
use Rattle.rules.specs.Reading.{any_may}
use Rattle.script_polynomial.proofs.products.space_may.Statement.{statement}
use Rattle.script_polynomial.proofs.products.space_may.Tie as tie

pub space_may_spec : {M : Type 1} → statement M
unfolding any_may
space_may_spec =
    tie.close
    (tie.spec (λ c. rw (ne_eqb c.args.byte 32 c.if-byte-ne32.true))
    (λ c. rw (eq-eqb c.args.byte 32 c.if-byte-ne32.false, le-ltb (c.args.monomial % 16) 15 (omega arith)))
    (λ c. rw (eq-eqb c.args.byte 32 c.if-byte-ne32.false, lt-ltb (c.args.monomial % 16) 15 (omega arith))))
