-- `placardpan_to_edition2` meets its contract: a finished block is short.
use mathlib.Core.Path.{◌∙◌}
use borrow.Author.Rules.{rules}
use Rattle.rules.specs.Block.{edition2}
use Rattle.convert.specs.Exported.{short-returned, number-returned}
use Rattle.convert.proofs.exported.placardpan_to_edition2.Statement.{statement}
use Rattle.convert.proofs.exported.placardpan_to_edition2.Tie as tie

number-in-requires : tie.Need-number_in-requires
number-in-requires c κs = short-returned edition2 c.to_edition2.ensures

returns : tie.Need-returns
returns c =
    let told = c.to_edition2.ensures in
    (c.number_in.ensures ∙ number-returned edition2 told, told.output)

pub placardpan_to_edition2_spec : {M : Type 1} → statement M
placardpan_to_edition2_spec = tie.close (tie.spec (λ c κs. search rules) number-in-requires (λ c. search rules) returns)
