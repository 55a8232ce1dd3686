-- `any_left` meets its contract: where all tries that the sets allow are barred by the rows, none of them cuts the set.
use borrow.Author.Rules.{rules}
use mathlib.Core.Path.{refl}
use native.Mathlib.Omega.{arith}
use Rattle.sieve.proofs.Leaves.{none_left, some_left}
use Rattle.sieve.proofs.any_left.Statement.{statement}
use Rattle.sieve.proofs.any_left.Tie as tie

fill-requires : tie.Need-fill-n-requires
fill-requires c κs =
    let s = c in
    ((s.requires.0, s.requires.1 c.if-not-falls.false), (refl, (refl, (refl, refl))))

any-try-requires : tie.Need-any_try-requires
any-try-requires c κs =
    let h = c.fill-n.ensures in
    record { first = h.firsts; second = h.seconds; third = h.thirds; signs = h.signs }

returns-3 : tie.Need-returns
returns-3 c = none_left
    (omega (arith, c.if-set-ge8.false))
    c.fill-n.ensures c.any_try.ensures

pub any_left_spec : {M : Type 1} → statement M
any_left_spec =
    tie.close
    (tie.spec (λ c. some_left) (λ c. some_left) (λ c. search rules) (λ c. search rules) (λ c. search rules) (λ c. search rules) fill-requires
    (λ c. search rules) (λ c. search rules) (λ c. search rules) (λ c. search rules) any-try-requires returns-3)
