-- `spaced` meets its contract.
use borrow.Author.Rules.{rules}
use Rattle.script_polynomial.proofs.Polynomials.{no-space, one-space}
use Rattle.script_polynomial.proofs.sums.spaced.Statement.{statement}
use Rattle.script_polynomial.proofs.sums.spaced.Tie as tie

pub spaced_spec : {M : Type 1} → statement M
spaced_spec =
    tie.close
    (tie.spec (λ c κs. search rules) (λ c. no-space _ _ _ c.byte_at.ensures c.if-byte_at-ne32.true) (λ c. search rules)
    (λ c. one-space _ _ _ c.byte_at.ensures c.if-byte_at-ne32.false))
