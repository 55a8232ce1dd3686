use borrow.Author.Count.{below_more}
use Rattle.std.proofs.Common.{◌≡◌, ℕ, get_or, arith}
use Rattle.search.proofs.variables.above.Goals as goal

pub loop-i-preserved : goal.loop-i-preserved
loop-i-preserved c =
    let a = c.args in
    below_more (λ (j : ℕ). get_or a.board.sets j 0 ≡ get_or a.floor.sets j 0) c.loop-i.i c.loop-i.invariant c.if-set-low.false

pub returns : goal.returns
returns c e = record { each = λ j h. c.loop-i.invariant j (omega (arith, h, c.loop-i-test.false)) }
