-- `turn_at` meets its contract: the byte behind the children decides.
use mathlib.Core.Path.{sym, ◌∙◌}
use native.Mathlib.Omega.{arith}
use borrow.Author.Rules.{rules}
use Rattle.script_back.proofs.Turns.{turn-few, turn-stops, turn-ends, turn_one, turn_more}
use Rattle.script_back.proofs.tree.turn_at.Statement.{statement}
use Rattle.script_back.proofs.tree.turn_at.Tie as tie

pub turn_at_spec : {M : Type 1} → statement M
turn_at_spec =
    tie.close
    (tie.spec (λ c κs. search rules)
    (λ c. turn_one _ _ _ (sym c.byte_at-next.ensures ∙ c.if-next-eq32.true) _ c.if-children-lt2.true)
    (λ c. turn-few _ _ _ _ c.if-children-lt2.true (λ e. c.if-next-eq32.false (c.byte_at-next.ensures ∙ e)))
    (λ c. turn-ends _ _ _ _ c.if-children-lt2.false (sym c.byte_at-next.ensures ∙ c.if-next-eq41.true))
    (λ c.
    turn-stops _ _ _ _ c.if-children-lt2.false (λ e. c.if-next-eq41.false (c.byte_at-next.ensures ∙ e)) (λ some e. absurd (omega (arith, some, c.if-room-eq0.true))))
    (λ c. search rules)
    (λ c.
    turn_more _ _ _ (sym c.byte_at-next.ensures ∙ c.if-next-eq32-2.true) _ c.if-children-lt2.false (omega (arith, c.if-room-eq0.false)) c.requires.1)
    (λ c.
    turn-stops _ _ _ _ c.if-children-lt2.false (λ e. c.if-next-eq41.false (c.byte_at-next.ensures ∙ e)) (λ h e. c.if-next-eq32-2.false (c.byte_at-next.ensures ∙ e))))
