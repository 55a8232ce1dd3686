-- `mark` meets its contract, by the choice.
use Rattle.rules.specs.Signs.{bit}
use Rattle.answer.proofs.mark.Statement.{statement}
use Rattle.answer.proofs.mark.Tie as tie

returns : tie.Need-returns-then-plain
unfolding bit
returns c = rw c.if-plain.true

returns-2 : tie.Need-returns-else-plain
unfolding bit
returns-2 c = rw c.if-plain.false

pub mark_spec : {M : Type 1} → statement M
mark_spec = tie.close (tie.spec returns returns-2)
