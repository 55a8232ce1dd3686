-- `put_number` meets its contract.
use borrow.Author.Rules.{rules}
use Rattle.lines.specs.Written.{wrote-both}
use Rattle.lines.proofs.put_number.Statement.{statement}
use Rattle.lines.proofs.put_number.Tie as tie

pub put_number_spec : {M : Type 1} → statement M
put_number_spec =
    tie.close
    (tie.spec (λ c κs. search rules) (λ c κs. search rules) (λ c. search rules)
    (λ c. wrote-both c.before.before.before.before.before.before.put_byte-digits.ensures c.before.before.put_decimal.ensures))
