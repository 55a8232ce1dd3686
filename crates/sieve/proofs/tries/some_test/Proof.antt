-- `some_test` meets its contract: the four signs of u and v.
use borrow.Author.Rules.{rules}
use borrow.Author.Tests.{leb-false}
use native.Mathlib.Omega.{arith}
use Rattle.sieve.proofs.Bars.{test-cannot, test-passes, test-passed}
use Rattle.sieve.proofs.tries.some_test.Statement.{statement}
use Rattle.sieve.proofs.tries.some_test.Tie as tie

returns : tie.Need-returns-then-not-cuts
returns c = test-cannot c.if-not-cuts.true

returns-5 : tie.Need-returns
returns-5 c =
    test-passed c.half-below1.ensures
    c.half-above1.ensures
    c.half-below2.ensures
    c.half-above2.ensures
    c.both.ensures
    c.some_halves-row1.ensures
    (omega (arith, c.if-n-row1.false))
    c.both-2.ensures
    c.some_halves-row2.ensures
    (omega (arith, c.if-n-row2.false))
    c.both-3.ensures c.some_halves-row3.ensures
    (omega (arith, c.if-n-row3.false))
    c.both-4.ensures c.some_halves-row4.ensures (λ e. leb-false _ _ e)

pub some_test_spec : {M : Type 1} → statement M
some_test_spec =
    tie.close
    (tie.spec returns (λ c κs. search rules) (λ c κs. search rules) (λ c κs. search rules) (λ c κs. search rules)
    (λ c κs. search rules) (λ c κs. search rules) (λ c. test-passes) (λ c κs. search rules) (λ c κs. search rules) (λ c. test-passes)
    (λ c κs. search rules) (λ c κs. search rules) (λ c. test-passes)
    (λ c κs. search rules)
    (λ c κs. (
      c.requires,
      (omega arith, omega arith),
    )) returns-5)
