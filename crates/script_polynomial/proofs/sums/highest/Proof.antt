-- `highest` meets its contract.
use native.Mathlib.Omega.{arith}
use borrow.Author.Rules.{rules}
use Rattle.script_polynomial.proofs.Polynomials.{half_is, half-some, half-small, two-halves}
use Rattle.script_polynomial.proofs.sums.highest.Statement.{statement}
use Rattle.script_polynomial.proofs.sums.highest.Tie as tie

returns : tie.Need-returns
returns c =
    let n = c.args.n in
    let p = c.requires in
    rw (half_is n p.0 p.1) (two-halves n p.0 p.1, omega (arith, half-some n p.0 p.1))

pub highest_spec : {M : Type 1} → statement M
highest_spec =
    tie.close
    (tie.spec (λ c. search rules) (λ c. search rules) (λ c. search rules)
    (λ c. let p = c.requires in rw (half_is c.args.n p.0 p.1) (half-some c.args.n p.0 p.1))
    (λ c. let n = c.args.n in
    let p = c.requires in
    omega (arith, half_is n p.0 p.1, half-small n p.0 p.1))
    returns)
