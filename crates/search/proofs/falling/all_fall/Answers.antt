use borrow.Author.Count.{below_more}
use Rattle.std.proofs.Common.{ℕ, arith}
use Rattle.round.specs.Signing.{atom_slot}
use Rattle.search.specs.Falling.{FallingSlot}
use Rattle.search.proofs.falling.all_fall.Goals as goal

pub loop-i-preserved : goal.loop-i-preserved
loop-i-preserved c =
    let a = c.args in
    below_more (λ (j : ℕ). FallingSlot a.monomial.now a.terms.now (atom_slot a.atoms.number j)) c.loop-i.i c.loop-i.invariant
    (c.slot_falls.ensures c.if-not-slot_falls.false)

pub returns : goal.returns
returns c e = record { each = λ j h. c.loop-i.invariant j (omega (arith, h, c.many-i-end.ensures, c.loop-i-test.false)) }
