-- `byte_at` meets its contract.
use mathlib.Core.Path.{sym}
use native.Mathlib.Omega.{arith}
use lib.ListN.{get_or-eq_default}
use borrow.Author.Rules.{rules}
use Rattle.script_polynomial.proofs.bytes.byte_at.Statement.{statement}
use Rattle.script_polynomial.proofs.bytes.byte_at.Tie as tie

returns : tie.Need-returns-then-text-at
returns c = let a = c.args in sym (get_or-eq_default a.text.now 0 {n = a.at} (omega arith))

pub byte_at_spec : {M : Type 1} → statement M
byte_at_spec = tie.close (tie.spec returns (λ c. search rules) (λ c. search rules))
