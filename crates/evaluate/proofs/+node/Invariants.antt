-- It ends, since the nodes that remain get fewer. What is left of the children says what all of them do.
use Rattle.std.proofs.Common.{ℕ, ◌-◌, ◌+◌, length}
use Rattle.std.specs.Prelude.{eqb}
use Rattle.rules.specs.Formula.{Parts}
use Rattle.rules.specs.Block.{NumberedAtom}
use Rattle.evaluate.specs.Tree.{Runs}
use Rattle.evaluate.specs.Walk.{Children}
use Rattle.evaluate.proofs.+node.Given as goal

abbrev pub decreases-node : goal.decreases-node
decreases-node l = length l.token.now - l.at

abbrev pub invariant-loop : goal.invariant-loop
invariant-loop l =
    (kids : Parts NumberedAtom) → Children l.token l.kind l.at kids
    → Runs l.coefficient l.monomial l.terms l.readings l.token (3 - l.kind) (l.at + 1) (eqb l.kind 1) kids l.counter l.next l.fits l.holds
