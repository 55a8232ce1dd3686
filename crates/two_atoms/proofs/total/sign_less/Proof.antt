-- `sign_less` meets its contract, by the product of two numbers of 32 bits.
use borrow.Author.Rules.{rules}
use mir.Syntax.{w64}
use mir.ValLaws.{to_z-of_z}
use Rattle.two_atoms.proofs.Sums.{product-back}
use Rattle.two_atoms.proofs.total.sign_less.Statement.{statement}
use Rattle.two_atoms.proofs.total.sign_less.Tie as tie

returns : tie.Need-returns
returns c =
    let f = c.before.before.ranges in
    rw (← to_z-of_z w64 _ f.x, ← product-back f.w f.b c.before.cross.ensures) c.sign_between.ensures

pub sign_less_spec : {M : Type 1} → statement M
sign_less_spec = tie.close (tie.spec (λ c κs. search rules) (λ c κs. search rules) returns)
