-- `some_halves` meets its contract: the tries are made where the sets allow them.
use native.Mathlib.Omega.{arith}
use Rattle.sieve.proofs.Bars.{halves-made, halves-not-made}
use Rattle.sieve.proofs.tries.some_halves.Statement.{statement}
use Rattle.sieve.proofs.tries.some_halves.Tie as tie

some-both-requires : tie.Need-some_both-requires
some-both-requires c κs = let s = c.before.before in (s.requires.0, (omega arith, omega arith))

pub some_halves_spec : {M : Type 1} → statement M
some_halves_spec =
    tie.close
    (tie.spec (λ c. omega arith) (λ c. omega arith) some-both-requires (λ c. halves-made c.some_both.ensures)
    (λ c. halves-not-made c.if-allowed.false))
