-- `product_next` meets its contract.
use native.Mathlib.Omega.{arith}
use borrow.Author.Rules.{rules}
use borrow.Author.Tests.{lt-ltb, le-ltb}
use Rattle.script_polynomial.proofs.sums.product_next.Statement.{statement}
use Rattle.script_polynomial.proofs.sums.product_next.Tie as tie

returns : tie.Need-returns-then-above-lt2
returns c = rw (le-ltb 1 c.args.above (omega arith))

returns-2 : tie.Need-returns
returns-2 c = rw (lt-ltb 1 c.args.above (omega arith)) c.opens.ensures

pub product_next_spec : {M : Type 1} → statement M
product_next_spec = tie.close (tie.spec returns (λ c κs. search rules) returns-2)
