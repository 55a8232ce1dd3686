use native.Mathlib.Omega.{arith}
use mathlib.Core.Path.{refl}
use borrow.Author.Rules.{rules}
use Rattle.tape.specs.Listing.{pushed}
use Rattle.tape.proofs.rows.push.Statement.{statement}
use Rattle.tape.proofs.rows.push.Tie as tie

pub push_spec : {M : Type 1} → statement M
push_spec =
    tie.close
    (tie.spec (λ c. search rules) (λ c. search rules) (λ c. search rules)
    (λ c.
    let row = c.args.row in
    (refl, pushed row _ c.args.token (omega (arith, c.well_formed.0.1.1.0.1.0.1, c.requires)) refl refl)))
