-- `End::at_most` meets its contract, by the function on the coefficients.
use borrow.Author.Rules.{rules}
use Rattle.interval.specs.Coefficients.{back}
use Rattle.interval.proofs.interval.End.at_most.Statement.{statement}
use Rattle.interval.proofs.interval.End.at_most.Tie as tie

returns : tie.Need-returns
returns c =
    let s = c.before.before.before.before.before.args in
    let x = c.before.before.before.struct_told-2-1.given in
    let y = c.before.struct_told-4-1.given in
    rw (
      c.at_most.ensures,
      back {z = s.self.a} (record { sfits = x.0.1 }),
      back {z = s.self.b} (record { sfits = x.1.0.1 }),
      back {z = s.other.a} (record { sfits = y.0.1 }),
      back {z = s.other.b} (record { sfits = y.1.0.1 }),
    )

pub at_most_spec : {M : Type 1} → statement M
at_most_spec = tie.close (tie.spec (λ c κs. search rules) returns)
