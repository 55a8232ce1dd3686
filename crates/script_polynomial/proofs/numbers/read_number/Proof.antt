-- `read_number` meets its contract.
use borrow.Author.Rules.{rules}
use Rattle.script_polynomial.proofs.Signed.{value_as, number-minus, number-plain}
use Rattle.script_polynomial.proofs.numbers.read_number.Statement.{statement}
use Rattle.script_polynomial.proofs.numbers.read_number.Tie as tie

pub read_number_spec : {M : Type 1} → statement M
read_number_spec =
    tie.close
    (tie.spec (λ c κs. search rules) (λ c κs. search rules)
    (λ c. value_as _ (number-minus _ _ _ c.byte_at.ensures c.if-byte_at-eq40.true) c.read_minus.ensures)
    (λ c κs. search rules)
    (λ c. value_as _ (number-plain _ _ _ c.byte_at.ensures c.if-byte_at-eq40.false) c.read_plain.ensures))
