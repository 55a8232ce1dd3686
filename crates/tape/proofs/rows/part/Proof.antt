use mathlib.Core.Path.{refl}
use mathlib.Core.List.{[]}
use borrow.Author.Rules.{rules}
use native.Mathlib.Omega.{arith}
use Rattle.tape.specs.Storing.{counted}
use Rattle.tape.proofs.rows.part.Statement.{statement}
use Rattle.tape.proofs.rows.part.Tie as tie

returns : tie.Need-returns
returns c = (omega (arith, c.before.before.before.before.requires.0), λ k m q h. counted (c.before.lay.ensures k [] m (record { is = refl; size = refl }) q h) (omega arith))

pub part_spec : {M : Type 1} → statement M
part_spec = tie.close (tie.spec (λ c. search rules) (λ c κs. search rules) (λ c. search rules) returns)
