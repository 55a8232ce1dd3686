use native.Mathlib.Omega.{arith}
use borrow.Author.Rules.{rules}
use Rattle.tape.specs.Entering.{goes-stays}
use Rattle.tape.proofs.walks.stayed.Statement.{statement}
use Rattle.tape.proofs.walks.stayed.Tie as tie

returns : tie.Need-returns
returns c t walk l own s a b more = goes-stays s l own _ _ (c.put_child-wider.ensures.1 s.children l own s.lies a b) (omega (arith, a.size, b.size)) more

pub stayed_spec : {M : Type 1} → statement M
stayed_spec = tie.close (tie.spec (λ c κs. search rules) returns)
