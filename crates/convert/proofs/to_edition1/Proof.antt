-- `to_edition1` meets its contract.
use mathlib.Core.Path.{refl}
use borrow.Author.Rules.{rules}
use Rattle.rules.specs.Block.{edition_number, edition_of}
use Rattle.convert.proofs.to_edition1.Statement.{statement}
use Rattle.convert.proofs.to_edition1.Tie as tie

asks : tie.Need-converted_to-requires
unfolding edition_number edition_of
asks c κs = refl

returns : tie.Need-returns
unfolding edition_of
returns c = c.converted_to.ensures

pub to_edition1_spec : {M : Type 1} → statement M
to_edition1_spec = tie.close (tie.spec asks (λ c. search rules) returns)
