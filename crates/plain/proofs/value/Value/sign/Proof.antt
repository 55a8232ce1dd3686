-- `Value::sign` meets its contract: the sign of the numerator.
use borrow.Author.Rules.{rules}
use mathlib.Core.Path.{◌∙◌}
use lib.IntN.{+ℤ_idr}
use mir.Syntax.{w64}
use mir.Val.{SFits}
use mir.ValLaws.{to_z-of_z}
use Rattle.plain.proofs.value.Value.sign.Statement.{statement}
use Rattle.plain.proofs.value.Value.sign.Tie as tie

returns : tie.Need-returns
returns c =
    let z = c.before.before.args.self.c in
    let f : SFits w64 z = record { sfits = c.before.struct_told-1.given.0.1 } in
    c.sign_between.ensures ∙ rw (to_z-of_z w64 z f, +ℤ_idr z)

pub sign_spec : {M : Type 1} → statement M
sign_spec = tie.close (tie.spec (λ c κs. search rules) returns)
