use borrow.Author.Rules.{rules}
use Rattle.tape.specs.Entering.{goes-atom}
use Rattle.tape.proofs.walks.joined.Statement.{statement}
use Rattle.tape.proofs.walks.joined.Tie as tie

returns : tie.Need-returns
returns c t walk s = goes-atom s c.before.before.before.before.args.token c.push-longer.result (rw c.before.opposite.ensures at (c.push-longer.ensures.1 s.new s.lists))

pub joined_spec : {M : Type 1} → statement M
joined_spec = tie.close (tie.spec (λ c κs. search rules) (λ c κs. search rules) returns)
