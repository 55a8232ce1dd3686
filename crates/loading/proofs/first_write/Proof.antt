-- `first_write` meets its contract: 1 where byte 3 is 255 already.
use borrow.Author.Rules.{rules}
use native.Mathlib.Omega.{arith}
use Rattle.loading.specs.Writing.{first-left-out, first_made, first-outside}
use Rattle.loading.proofs.first_write.Statement.{statement}
use Rattle.loading.proofs.first_write.Tie as tie

returns : tie.Need-returns-then-area-le3
returns c = first-outside c.before.args.area.now (omega (arith, c.if-area-le3.true))

returns-2 : tie.Need-returns-then-area
returns-2 c = let a = c.before.before.before.args in first-left-out a.area.now c.if-area.true

returns-3 : tie.Need-returns
returns-3 c = let a = c.before.before.before.args in first_made a.area.now (λ full. omega (arith, full, c.if-area.false))

pub first_write_spec : {M : Type 1} → statement M
first_write_spec = tie.close (tie.spec returns (λ c. search rules) returns-2 returns-3)
