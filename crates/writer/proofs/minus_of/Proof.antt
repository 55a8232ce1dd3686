-- `writer::minus_of` meets its contract.
use Rattle.writer.proofs.Signed.{minus_one, minus-none}
use Rattle.writer.proofs.minus_of.Statement.{statement}
use Rattle.writer.proofs.minus_of.Tie as tie

pub minus_of_spec : {M : Type 1} → statement M
minus_of_spec =
    tie.close
    (tie.spec (λ c. minus_one c.before.args.coefficient c.before.ranges.coefficient c.if-coefficient-lt0.true)
    (λ c. minus-none c.before.args.coefficient c.before.ranges.coefficient c.if-coefficient-lt0.false))
