-- `place` meets its contract: each case of the order of the writes.
use borrow.Author.Rules.{rules}
use native.Mathlib.Omega.{arith}
use Rattle.loading.specs.Writing.{place-guard, place-own, place-before, place-from}
use Rattle.loading.proofs.place.Statement.{statement}
use Rattle.loading.proofs.place.Tie as tie

returns : tie.Need-returns-then-k-eq0
returns c = let a = c.before.args in place-guard a.size a.k (omega (arith, c.if-k-eq0.true))

returns-2 : tie.Need-returns-then-k-size
returns-2 c =
    let a = c.before.before.args in
    place-own a.size a.k (λ first. let later = c.before.if-k-eq0.false in absurd (omega (arith, first))) (omega (arith, c.if-k-size.true))

returns-3 : tie.Need-returns-then-k-le3
returns-3 c =
    let a = c.before.before.before.args in
    place-before a.size a.k (λ first. omega (arith, first, c.before.before.if-k-eq0.false)) (λ last. omega (arith, last, c.before.if-k-size.false))
    (omega (arith, c.if-k-le3.true))

returns-4 : tie.Need-returns
returns-4 c =
    let a = c.before.before.before.args in
    place-from a.size a.k (λ first. omega (arith, first, c.before.before.if-k-eq0.false)) (λ last. omega (arith, last, c.before.if-k-size.false))
    (omega (arith, c.if-k-le3.false))

pub place_spec : {M : Type 1} → statement M
place_spec = tie.close (tie.spec returns returns-2 (λ c. search rules) returns-3 returns-4)
