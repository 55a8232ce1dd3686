-- `row_bars` meets its contract, by the sign of the coefficient.
use borrow.Author.Rules.{rules}
use Rattle.sieve.proofs.Bars.{sum-above, sum_below, bars-above, bars-below, bars-none}
use Rattle.sieve.proofs.tries.row_bars.Statement.{statement}
use Rattle.sieve.proofs.tries.row_bars.Tie as tie

returns-2 : tie.Need-returns-then-x-y
returns-2 c =
    let f = c.before.before.before.before.before.ranges in
    bars-below (sum_below f.a f.u f.b f.w f.c c.before.before.before.before.plus-x.ensures
    c.before.before.before.cross-y.ensures
    c.before.if-y-x.false) c.can_be.ensures

returns-3 : tie.Need-returns
returns-3 c =
    let f = c.before.before.before.before.ranges in
    bars-above (sum-above f.a f.u f.b f.w f.c c.before.before.before.plus-x.ensures c.before.before.cross-y.ensures
    c.before.if-x-y.false) c.can_be-2.ensures

pub row_bars_spec : {M : Type 1} → statement M
row_bars_spec =
    tie.close
    (tie.spec (λ c κs. search rules) (λ c κs. search rules) (λ c. bars-none) (λ c κs. search rules) returns-2 (λ c κs. search rules) returns-3)
