use Rattle.std.proofs.Common.{List, ℕ, ◌-◌, ◌≤◌, length, drop, refl, arith, length-set, length-drop, length-take}
use borrow.Author.Tests.{not-true, not-false}
use Rattle.tape.specs.Row.{row_of, Lists}
use Rattle.tape.specs.Storing.{stored}
use Rattle.steps.proofs.Atomwise.{prune-start, prune-end, prune-drop, prune-gone, prune-keep, part-next, part-done}
use Rattle.steps.proofs.sweeping.prune.Goals as goal
use Rattle.steps.proofs.sweeping.prune.Goals.{then-not-cut, else-not-cut}

pub loop-token-init : goal.loop-token-init
loop-token-init c = record { room = refl; small = omega arith; left = λ k l h m. prune-start _ _ _ _ (record { is = refl; size = refl }) }

pub returns-then-cut : goal.returns-then-cut
returns-then-cut c =
    let loop = c.loop-token in
    let a = c.args in (
      omega (arith, loop.invariant.small, length-take (a.to - a.from) (drop a.from a.row.now), length-drop a.from a.row.now),
      λ k l h m. prune-drop (rw (part-next a.from a.to loop.token-index h m c.loop-token-test.true) at (loop.invariant.left k l h m)) _ c.cut_atom-cut.ensures c.if-cut.true,
    )

pub loop-token-preserved : goal.loop-token-preserved
loop-token-preserved c =
    let loop = c.loop-token in
    let a = c.args in
    let inv = loop.invariant in
    let next = λ (k : ℕ) (l : List ℕ) (h : Lists (row_of a.row.now k) l) (m : a.to ≤ length l).
    rw (part-next a.from a.to loop.token-index h m c.loop-token-test.true) at (inv.left k l h m) in
    elim c.if-not-cut.branch [
      | then-not-cut w ↦ rw (w.left-is, w.count-is) (record {
        room = simp length-set inv.room;
        small = omega arith;
        left = λ k l h m.
            prune-keep (next k l h m) _ c.cut_atom-cut.ensures c.if-cut.false (not-true _ w.if-not-cut.true) _
            (stored loop.left loop.count _
            (omega (arith, inv.room, inv.small, c.loop-token-test.true, length-take (a.to - a.from) (drop a.from a.row.now), c.requires.1.1.1)));
      })
      | else-not-cut w ↦ rw (w.left-is, w.count-is) (record {
        room = inv.room;
        small = omega arith;
        left = λ k l h m. prune-gone (next k l h m) _ c.cut_atom-cut.ensures c.if-cut.false (not-false _ w.if-not-cut.false);
      })
    ]

pub returns : goal.returns
returns c =
    let loop = c.loop-token in
    let a = c.args in (
      omega (arith, loop.invariant.small, length-take (a.to - a.from) (drop a.from a.row.now), length-drop a.from a.row.now),
      λ k l h m. prune-end (rw (part-done a.from a.to loop.token-index h m c.loop-token-test.false) at (loop.invariant.left k l h m)),
    )
