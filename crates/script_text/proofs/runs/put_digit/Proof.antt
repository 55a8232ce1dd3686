-- `put_digit` meets its contract.
use borrow.Author.Rules.{rules}
use Rattle.rules.specs.Report.{digit}
use Rattle.script_text.proofs.runs.put_digit.Statement.{statement}
use Rattle.script_text.proofs.runs.put_digit.Tie as tie

returns : tie.Need-returns
unfolding digit
returns c = c.put_byte.ensures

pub put_digit_spec : {M : Type 1} → statement M
put_digit_spec = tie.close (tie.spec (λ c. search rules) (λ c. search rules) (λ c κs. search rules) (λ c. search rules) returns)
