-- `give` meets its contract: the tokens passed have their places, the others are as they were.
use Rattle.std.proofs.Common.{List, ℕ, ◌++◌, ap, drop}
use Rattle.std.proofs.lemmas.List.{set-get_or}
use Rattle.places.proofs.Walks.{giving-first, giving-atom, giving-node, given-all}
use Rattle.places.proofs.give.Goals as goal
use Rattle.places.proofs.give.Goals.{then-t-lt16777216, else-t-lt16777216}

pub loop-t-init : goal.loop-t-init
loop-t-init c = giving-first _

pub loop-t-preserved : goal.loop-t-preserved
loop-t-preserved c =
    elim c.if-t-lt16777216.branch [
      | then-t-lt16777216 w ↦ rw (w.place-is, w.t-items-is) (giving-atom c.loop-t.invariant c.loop-t-test.true w.if-t-lt16777216.true)
      | else-t-lt16777216 w ↦ rw (w.place-is, w.t-items-is, set-get_or) (giving-node c.loop-t.invariant c.loop-t-test.true w.if-t-lt16777216.false)
    ]

pub returns : goal.returns
returns c = ap (λ (l : List ℕ). l ++ drop c.args.count c.args.token.now) (given-all c.loop-t.invariant c.loop-t-test.false)
