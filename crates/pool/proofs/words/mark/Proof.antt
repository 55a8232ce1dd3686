-- `words::mark` meets its contract: the bit of the number.
use mathlib.Core.Path.{sym}
use Rattle.pool.specs.Marks.{mark-at}
use borrow.Author.Rules.{rules}
use Rattle.pool.proofs.words.mark.Statement.{statement}
use Rattle.pool.proofs.words.mark.Tie as tie

pub mark_spec : {M : Type 1} → statement M
mark_spec = tie.close (tie.spec (λ c. search rules) (λ c. sym (mark-at 32 c.args.word c.args.number c.requires)))
