use mathlib.Core.Path.{sym}
use borrow.Author.Rules.{rules}
use native.Mathlib.Omega.{arith}
use Rattle.sign_laws.specs.Sets.{complement-below}
use Rattle.tape.proofs.tokens.opposite.Statement.{statement}
use Rattle.tape.proofs.tokens.opposite.Tie as tie

returns : tie.Need-returns
returns c =
    let set = c.before.complement.ensures in
    let small = complement-below c.before.before.set_of.result.0 in
    rw (sym c.before.before.set_of.ensures) (omega (arith, c.with_set.ensures, set, small))

pub opposite_spec : {M : Type 1} → statement M
opposite_spec = tie.close (tie.spec (λ c κs. search rules) (λ c κs. search rules) (λ c κs. search rules) returns)
