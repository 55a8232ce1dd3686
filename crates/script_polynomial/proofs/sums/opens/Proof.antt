-- `opens` meets its contract.
use borrow.Author.Rules.{rules}
use borrow.Author.Tests.{eq-eqb, ne_eqb}
use Rattle.script_polynomial.proofs.sums.opens.Statement.{statement}
use Rattle.script_polynomial.proofs.sums.opens.Tie as tie

returns : tie.Need-returns-then-byte_at-ne40
returns c = rw (← c.byte_at.ensures, ne_eqb c.byte_at.result 40 c.if-byte_at-ne40.true)

returns-2 : tie.Need-returns
returns-2 c =
    rw (← c.byte_at.ensures, eq-eqb c.byte_at.result 40 c.if-byte_at-ne40.false, ← c.byte_at-2.ensures)

pub opens_spec : {M : Type 1} → statement M
opens_spec = tie.close (tie.spec (λ c κs. search rules) returns (λ c. search rules) (λ c κs. search rules) returns-2)
