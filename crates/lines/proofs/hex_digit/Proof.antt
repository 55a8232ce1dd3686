-- `hex_digit` meets its contract.
use borrow.Author.Rules.{rules}
use Rattle.lines.proofs.Runs.{hex-below-ten, hex-from-ten}
use Rattle.lines.proofs.hex_digit.Statement.{statement}
use Rattle.lines.proofs.hex_digit.Tie as tie

pub hex_digit_spec : {M : Type 1} → statement M
hex_digit_spec =
    tie.close
    (tie.spec (λ c. search rules) (λ c. search rules) (λ c. hex-below-ten c.before.args.d c.if-d-lt10.true)
    (λ c. hex-from-ten c.before.args.d c.if-d-lt10.false))
