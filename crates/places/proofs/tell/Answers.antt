-- `tell` meets its contract: the atoms among the tokens passed have told their places, and no other byte is touched.
use Rattle.std.proofs.Common.{arith}
use Rattle.std.proofs.lemmas.List.{length-take-le}
use Rattle.places.proofs.Walks.{telling-first, telling-atom, telling-node, told-all}
use Rattle.places.proofs.tell.Goals as goal
use Rattle.places.proofs.tell.Goals.{then-t-lt16777216, else-t-lt16777216}

pub loop-t-init : goal.loop-t-init
loop-t-init c = telling-first _ _

pub loop-t-preserved : goal.loop-t-preserved
loop-t-preserved c =
    let l = c.loop-t in
    elim c.if-t-lt16777216.branch [
      | then-t-lt16777216 w ↦ rw (w.told-is, w.places-is) (telling-atom l.invariant c.loop-t-test.true (omega (arith, length-take-le c.args.count c.args.token.now c.requires.0)) w.if-t-lt16777216.true)
      | else-t-lt16777216 w ↦ rw (w.told-is, w.places-is) (telling-node l.invariant c.loop-t-test.true w.if-t-lt16777216.false)
    ]

pub returns : goal.returns
returns c = told-all c.loop-t.invariant c.loop-t-test.false
