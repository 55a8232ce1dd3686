-- `open_node` meets its contract: the first two bytes decide.
use mathlib.Core.Path.{◌≡◌, sym, ◌∙◌}
use Prim.Native.Nat.{ℕ, ◌+◌, ◌<◌, ◌≤◌}
use native.Mathlib.Omega.{arith}
use lib.ListN.{length, get_or}
use borrow.Author.Rules.{rules}
use Rattle.script_back.proofs.Positions.{stands-inside}
use Rattle.script_back.proofs.Opens.{node-stops, node-below, node-above, node-equal, node-unequal, node-and, node-or, node-other}
use Rattle.script_back.proofs.opening.open_node.Statement.{statement}
use Rattle.script_back.proofs.opening.open_node.Tie as tie

-- Behind `(` and the second byte.
first-is : (c : tie.After-byte_at-second) → get_or c.args.text.now c.args.at 0 ≡ 40
first-is c = sym c.byte_at.ensures ∙ c.if-byte_at-ne40.false

second-inside : (c : tie.After-byte_at-second) (byte : ℕ) → c.byte_at-second.result ≡ byte → 0 < byte → c.args.at + 2 ≤ length c.args.text.now
second-inside c byte e some = omega (arith, stands-inside c.args.text.now (c.args.at + 1) byte (sym c.byte_at-second.ensures ∙ e) some)

pub open_node_spec : {M : Type 1} → statement M
open_node_spec =
    tie.close
    (tie.spec (λ c κs. search rules)
    (λ c. node-stops _ _ _ _ (λ e. c.if-byte_at-ne40.true (c.byte_at.ensures ∙ e)))
    (λ c. search rules)
    (λ c κs. search rules)
    (λ c. search rules)
    (λ c κs. (second-inside c.before 60 c.if-second-eq60.true (omega arith), omega arith, omega arith))
    (λ c. node-below _ _ _ _ (first-is c.before.before) (sym c.byte_at-second.ensures ∙ c.if-second-eq60.true) c.compared.ensures)
    (λ c. search rules)
    (λ c κs. (second-inside c.before.before 62 c.if-second-eq62.true (omega arith), omega arith, omega arith))
    (λ c. node-above _ _ _ _ (first-is c.before.before.before) (sym c.byte_at-second.ensures ∙ c.if-second-eq62.true) c.compared-then-second-eq62.ensures)
    (λ c. search rules)
    (λ c κs. second-inside c.before.before.before.before.before 61 c.if-second-eq61.true (omega arith))
    (λ c. node-equal _ _ _ _ (first-is c.before.before.before.before.before.before) (sym c.byte_at-second.ensures ∙ c.if-second-eq61.true) c.beginning.ensures)
    (λ c. search rules)
    (λ c κs. second-inside c.before.before.before.before.before.before 110 c.if-second-eq110.true (omega arith))
    (λ c. node-unequal _ _ _ _ (first-is c.before.before.before.before.before.before.before) (sym c.byte_at-second.ensures ∙ c.if-second-eq110.true) c.beginning-then-second-eq110.ensures)
    (λ c. search rules)
    (λ c κs. (omega arith, second-inside c.before.before.before.before.before.before.before 97 c.if-second-eq97.true (omega arith)))
    (λ c. node-and _ _ _ _ (first-is c.before.before.before.before.before.before.before.before) (sym c.byte_at-second.ensures ∙ c.if-second-eq97.true) c.joining.ensures)
    (λ c. search rules)
    (λ c κs. (omega arith, second-inside c.before.before.before.before.before.before.before.before 111 c.if-second-eq111.true (omega arith)))
    (λ c. node-or _ _ _ _ (first-is c.before.before.before.before.before.before.before.before.before) (sym c.byte_at-second.ensures ∙ c.if-second-eq111.true) c.joining-then-second-eq111.ensures)
    (λ c. search rules)
    (λ c.
    node-other _ _ _ _ (first-is c.before.before.before.before.before.before) (record {
      no_below = λ e. c.if-second-eq60.false (c.byte_at-second.ensures ∙ e);
      no_above = λ e. c.if-second-eq62.false (c.byte_at-second.ensures ∙ e);
      no_equal = λ e. c.if-second-eq61.false (c.byte_at-second.ensures ∙ e);
      no_unequal = λ e. c.if-second-eq110.false (c.byte_at-second.ensures ∙ e);
      no_and = λ e. c.if-second-eq97.false (c.byte_at-second.ensures ∙ e);
      no_or = λ e. c.if-second-eq111.false (c.byte_at-second.ensures ∙ e);
    })))
