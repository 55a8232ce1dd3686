-- `simplify_by` meets its contract.
use borrow.Author.Rules.{rules}
use native.Mathlib.Omega.{arith}
use Rattle.laws.specs.Answers.{same-lifts, never-longer-answer}
use lib.ListN.{length}
use Rattle.lift.specs.Entry.{answers-short}
use Rattle.lift.proofs.simplify_by.Statement.{statement}
use Rattle.lift.proofs.simplify_by.Tie as tie

returns : tie.Need-returns-then-output-input
returns c =
    let a = c.args in (
      answers-short a.input.now a.output.now (omega (arith, c.if-output-input.true)),
      same-lifts (length a.output.now) a.input.now,
      never-longer-answer (length a.output.now) a.input.now,
    )

returns-2 : tie.Need-returns
returns-2 c =
    let a = c.args in (
      c.answered-known.ensures.0,
      same-lifts (length a.output.now) a.input.now,
      never-longer-answer (length a.output.now) a.input.now,
    )

pub simplify_by_spec : {M : Type 1} → statement M
simplify_by_spec = tie.close (tie.spec returns (λ c. search rules) (λ c κs. search rules) (λ c. search rules) returns-2)
