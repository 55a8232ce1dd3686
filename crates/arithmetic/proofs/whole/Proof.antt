-- `arithmetic::whole` meets its contract.
use mathlib.Core.Path.{ap, ◌∙◌}
use borrow.Author.Rules.{rules}
use lib.IntN.{nat_abs}
use mir.Syntax.{w32}
use mir.ValLaws.{to_z-of_z}
use Rattle.rules.specs.Block.{minus_bit}
use Rattle.arithmetic.specs.Numbers.{whole-meaning}
use Rattle.arithmetic.proofs.whole.Statement.{statement}
use Rattle.arithmetic.proofs.whole.Tie as tie

returns : tie.Need-returns
returns c =
    let start = c.before.before in
    let back = to_z-of_z w32 start.args.x start.ranges.x in
    whole-meaning start.args.x (c.before.minus_of.ensures ∙ ap minus_bit back) (c.magnitude_of.ensures ∙ ap nat_abs back)

pub whole_spec : {M : Type 1} → statement M
whole_spec = tie.close (tie.spec (λ c κs. search rules) (λ c κs. search rules) returns)
