-- `with_rounds` meets its contract: refused by 1, or what the answer and the count from 0 say.
use borrow.Author.Rules.{rules}
use mathlib.Core.Path.{subst, sym}
use Prim.Native.Nat.{ℕ, ◌≤◌}
use native.Mathlib.Omega.{arith}
use lib.ListN.{length}
use Rattle.laws.specs.Answers.{same-lifts, never-longer-answer}
use Rattle.lift.specs.Rounds.{rounds_in, rounds-answer-short, rounds-answer, at-most-161}
use Rattle.lift.proofs.counting.with_rounds.Statement.{statement}
use Rattle.lift.proofs.counting.with_rounds.Tie as tie

returns : tie.Need-returns-then-output-input
returns c =
    let a = c.args in (
      rounds-answer-short a.input.now a.output.now (omega (arith, c.if-output-input.true)),
      same-lifts (length a.output.now) a.input.now,
      never-longer-answer (length a.output.now) a.input.now,
      omega arith,
    )

returns-2 : tie.Need-returns
returns-2 c =
    let a = c.args in
    let counted = rounds-answer (omega (arith, c.if-output-input.false)) c.answered.ensures.0 c.answered.ensures.1.1 in (
      counted,
      same-lifts (length a.output.now) a.input.now,
      never-longer-answer (length a.output.now) a.input.now,
      subst (λ (k : ℕ). k ≤ 161) (sym counted.rounds) (at-most-161 (length a.output.now) a.input.now),
    )

pub with_rounds_spec : {M : Type 1} → statement M
with_rounds_spec = tie.close (tie.spec returns (λ c. search rules) (λ c κs. search rules) (λ c. search rules) returns-2)
