use Rattle.std.proofs.Common.{◌≡◌, ◌+◌, arith}
use borrow.Author.Tests.{ltb-true}
use Rattle.ending_laws.specs.Cuts.{spare_all}
use Rattle.terms.specs.View.{sets_of}
use Rattle.rounds.proofs.counting.within.Goals as goal
use Rattle.rounds.proofs.counting.within.Goals.{After-spares-above, After-spares-below}

-- the signs that the board can lose, and those of the floor
above-is : (c : After-spares-above) → c.spares-above.result ≡ spare_all (sets_of c.args.board)
above-is c = rw c.few.ensures at c.spares-above.ensures.0

below-is : (c : After-spares-below) → c.spares-below.result ≡ spare_all (sets_of c.args.floor)
below-is c = rw c.few-2.ensures at c.spares-below.ensures.0

pub returns-then-begun-above : goal.returns-then-begun-above
returns-then-begun-above c = λ e. omega (arith, c.if-begun-above.true, above-is (goal.at.returns-then-begun-above c).After-spares-above)

pub returns : goal.returns
returns c = λ e.
    let at = goal.at.returns c in
    let less = ltb-true (c.args.begun + c.spares-above.result) (c.args.largest + c.spares-below.result) e in
    omega (arith, less, above-is at.After-spares-above, below-is at.After-spares-below)
