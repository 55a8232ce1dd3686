-- `read_root` meets its contract: the first byte decides.
use mathlib.Core.Path.{sym, ◌∙◌}
use native.Mathlib.Omega.{arith}
use borrow.Author.Rules.{rules}
use Rattle.script_back.proofs.Texts.{blank-some, root-is-true, root-is-false, root-is-node}
use Rattle.script_back.proofs.whole_script.read_root.Statement.{statement}
use Rattle.script_back.proofs.whole_script.read_root.Tie as tie

pub read_root_spec : {M : Type 1} → statement M
read_root_spec =
    tie.close
    (tie.spec (λ c κs. search rules) (λ c κs. search rules) (λ c. search rules)
    (λ c.
    root-is-true c.requires.0 (sym c.byte_at-first.ensures ∙ c.if-first-eq116.true) c.read_none.ensures) (λ c κs. search rules) (λ c. search rules)
    (λ c.
    root-is-false c.requires.0 (sym c.byte_at-first.ensures ∙ c.if-first-eq102.true) c.read_none-then-first-eq102.ensures)
    (λ c κs.
    (blank-some c.requires.0, record { inside = c.requires.1; tape = c.requires.0.lent.tape; fits = omega arith }))
    (λ c. search rules) (λ c. search rules) (λ c. search rules) (λ c. search rules)
    (λ c.
    root-is-node c.requires.0 (λ e. c.if-first-eq116.false (c.byte_at-first.ensures ∙ e)) (λ e. c.if-first-eq102.false (c.byte_at-first.ensures ∙ e)) c.read_node.ensures))
