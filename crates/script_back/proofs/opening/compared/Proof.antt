-- `compared` meets its contract.
use mathlib.Core.Path.{sym, ◌∙◌}
use borrow.Author.Rules.{rules}
use Rattle.script_back.proofs.Opens.{compared-zero, compared-strict}
use Rattle.script_back.proofs.opening.compared.Statement.{statement}
use Rattle.script_back.proofs.opening.compared.Tie as tie

pub compared_spec : {M : Type 1} → statement M
compared_spec =
    tie.close
    (tie.spec (λ c κs. search rules) (λ c. search rules) (λ c κs. search rules)
    (λ c.
    compared-zero c.requires.1 c.requires.2 (sym c.byte_at.ensures ∙ c.if-byte_at-eq61.true) c.beginning.ensures) (λ c κs. search rules)
    (λ c.
    compared-strict c.requires.1 c.requires.2 (λ e. c.if-byte_at-eq61.false (c.byte_at.ensures ∙ e)) c.beginning-2.ensures))
