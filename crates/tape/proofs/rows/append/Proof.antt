use borrow.Author.Rules.{rules}
use native.Mathlib.Omega.{arith}
use Rattle.tape.proofs.rows.append.Statement.{statement}
use Rattle.tape.proofs.rows.append.Tie as tie

lay-requires : tie.Need-lay-requires
lay-requires c κs =
    let start = c in
    let long = start.well_formed.0.1.1.0.1.0.1 in
    let other-long = start.well_formed.1.0.1.1.0.1.0.1 in
    (start.requires.0, (omega (arith, start.requires.1.0, other-long), omega (arith, start.requires.1.1, long)))

pub append_spec : {M : Type 1} → statement M
append_spec =
    tie.close
    (tie.spec (λ c. search rules) (λ c. search rules) lay-requires (λ c. search rules) (λ c. search rules) (λ c. (omega (arith, c.requires.0), λ l m p q h. c.lay.ensures _ l m p q h)))
