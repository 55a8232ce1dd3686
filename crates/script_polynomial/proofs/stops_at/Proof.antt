-- `stops_at` meets its contract.
use borrow.Author.Rules.{rules}
use Rattle.script_polynomial.proofs.Pieces.{some_read, stops-full}
use Rattle.script_polynomial.proofs.stops_at.Statement.{statement}
use Rattle.script_polynomial.proofs.stops_at.Tie as tie

longest-requires : tie.Need-longest-reach-requires
longest-requires c κs = (c.requires.1, some_read c.requires.0)

returns-2 : tie.Need-returns
returns-2 c = stops-full _ _ _ _ _ _ _ c.longest-reach.ensures c.if-known-lt64.false c.smaller_of.ensures

pub stops_at_spec : {M : Type 1} → statement M
stops_at_spec = tie.close (tie.spec (λ c. search rules) longest-requires (λ c κs. search rules) returns-2)
