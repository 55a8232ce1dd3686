-- `deduce` meets its contract: an empty set on the board, or what is said where there is none.
use borrow.Author.Rules.{rules}
use mathlib.Core.Path.{sym, ◌∙◌}
use Rattle.deduce.specs.Runs.{within}
use Rattle.deduce.proofs.Board.{deduce-empty}
use Rattle.deduce.proofs.deduce.Statement.{statement}
use Rattle.deduce.proofs.deduce.Tie as tie

pub deduce_spec : {M : Type 1} → statement M
deduce_spec =
    tie.close
    (tie.spec (λ c κs. search rules) (λ c. deduce-empty _ _ _ _ (sym c.before.any_empty.ensures ∙ c.if-any_empty.true))
    (λ c κs. let h = c.before.before.before.before.requires in (within h.0, within h.1))
    (λ c. let h = c.before.before.before.before.before.requires in
    c.deduce_from.ensures.on h.0.signed h.1.signed (sym c.before.before.any_empty.ensures ∙ c.before.if-any_empty.false)))
