-- `placed_by` meets its contract: 1, then 18, then what the reader and the answer say.
use borrow.Author.Rules.{rules}
use native.Mathlib.Omega.{arith}
use Rattle.laws.specs.Answers.{places-tell}
use lib.ListN.{length}
use Rattle.lift.specs.Places.{placed-refused-1, placed-refused-18, placed-answers, placed-same-lifts, placed-never-longer}
use Rattle.lift.proofs.placing.placed_by.Statement.{statement}
use Rattle.lift.proofs.placing.placed_by.Tie as tie

returns : tie.Need-returns-then-output-input
returns c =
    let a = c.args in (
      placed-refused-1 a.input.now a.output.now a.places.now (omega (arith, c.if-output-input.true)),
      placed-same-lifts (length a.output.now) (length a.places.now) a.input.now,
      placed-never-longer (length a.output.now) (length a.places.now) a.input.now,
      places-tell a.input.now,
    )

returns-2 : tie.Need-returns-then-places-lt255
returns-2 c =
    let a = c.args in (
      placed-refused-18 a.input.now a.output.now a.places.now (omega (arith, c.if-output-input.false)) (omega (arith, c.if-places-lt255.true)),
      placed-same-lifts (length a.output.now) (length a.places.now) a.input.now,
      placed-never-longer (length a.output.now) (length a.places.now) a.input.now,
      places-tell a.input.now,
    )

returns-3 : tie.Need-returns
returns-3 c =
    let a = c.args in (
      placed-answers a.input.now a.output.now a.places.now (omega (arith, c.if-places-lt255.false)) c.answered-known.ensures.0 c.answered-known.ensures.1.0,
      placed-same-lifts (length a.output.now) (length a.places.now) a.input.now,
      placed-never-longer (length a.output.now) (length a.places.now) a.input.now,
      places-tell a.input.now,
    )

pub placed_by_spec : {M : Type 1} → statement M
placed_by_spec = tie.close (tie.spec returns returns-2 (λ c κs. search rules) (λ c. search rules) (λ c. search rules) returns-3)
