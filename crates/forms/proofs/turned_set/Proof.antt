-- `turned_set` meets its contract, by the flag.
use borrow.Author.Rules.{rules}
use Rattle.normal.specs.Normal.{turned_set}
use Rattle.forms.proofs.turned_set.Statement.{statement}
use Rattle.forms.proofs.turned_set.Tie as tie

returns : tie.Need-returns-then-turned
unfolding turned_set
returns c = rw c.before.if-turned.true c.mirror.ensures

returns-2 : tie.Need-returns-else-turned
unfolding turned_set
returns-2 c = rw c.if-turned.false

pub turned_set_spec : {M : Type 1} → statement M
turned_set_spec = tie.close (tie.spec (λ c κs. search rules) returns returns-2)
