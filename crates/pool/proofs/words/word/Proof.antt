-- `words::word` meets its contract: a word that is not there reads as 0.
use mathlib.Core.Path.{sym}
use lib.ListN.{get_or-eq_default}
use borrow.Author.Rules.{rules}
use Rattle.pool.proofs.words.word.Statement.{statement}
use Rattle.pool.proofs.words.word.Tie as tie

pub word_spec : {M : Type 1} → statement M
word_spec =
    tie.close
    (tie.spec (λ c. search rules) (λ c. search rules) (λ c. search rules)
    (λ c. sym (get_or-eq_default c.args.pool.now 0 c.if-k-pool.false)))
