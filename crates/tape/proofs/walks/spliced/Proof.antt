use native.Mathlib.Omega.{arith}
use borrow.Author.Rules.{rules}
use Rattle.tape.specs.Entering.{goes-spliced}
use Rattle.tape.proofs.walks.spliced.Statement.{statement}
use Rattle.tape.proofs.walks.spliced.Tie as tie

returns : tie.Need-returns
returns c t walk l own s h e =
    goes-spliced s l own c.before.before.before.before.args.row h _ e _ _
    (c.before.append-longer.ensures.1 _ _ s.lists h (omega (arith, h.size)))
    (c.append-wider.ensures.1 _ _ s.lies h (omega (arith, h.size)))

pub spliced_spec : {M : Type 1} → statement M
spliced_spec = tie.close (tie.spec (λ c. search rules) (λ c κs. search rules) (λ c. search rules) (λ c κs. search rules) returns)
