-- The AND rule and the OR rule meet their contracts: each part is passed in its turn, and what is gathered is finished.
use Rattle.std.proofs.Common.{refl, arith, length-set}
use Rattle.tape.specs.Storing.{stored, stored-as}
use Rattle.level.proofs.Gathering.{runs-start, runs-gathered, runs-end, runs-inside, runs-leaf, runs-ready, runs-room, runs-node, runs_skip}
use Rattle.level.proofs.nesting.+and_rule_or_rule.Goals as goal
use Rattle.level.proofs.nesting.+and_rule_or_rule.Goals.{and_rule-then-part-lt-NODE, and_rule-else-part-lt-NODE+then-walked, and_rule-else-part-lt-NODE+else-walked}
use Rattle.level.proofs.nesting.+and_rule_or_rule.Goals.{or_rule-then-part-lt-NODE, or_rule-else-part-lt-NODE+then-walked, or_rule-else-part-lt-NODE+else-walked}

pub and_rule-loop-i-init : goal.and_rule-loop-i-init
and_rule-loop-i-init t c = record {
  parts = refl;
  room = refl;
  runs = runs-start refl (record { is = refl; size = refl }) c.begin-walked.ensures.1.0 (c.begin-walked.ensures.1.1 _);
}

pub and_rule-offset_bounds-token-place : goal.and_rule-offset_bounds-token-place
and_rule-offset_bounds-token-place t c = omega (arith, (runs-inside c.loop-i.invariant.runs _ c.loop-i.invariant.parts c.loop-i-test.true c.requires.1).0)

pub and_rule-bounds-token-place : goal.and_rule-bounds-token-place
and_rule-bounds-token-place t c = (runs-inside c.loop-i.invariant.runs _ c.loop-i.invariant.parts c.loop-i-test.true c.requires.1).0

pub and_rule-offset_bounds-list-count : goal.and_rule-offset_bounds-list-count
and_rule-offset_bounds-list-count t c = omega (arith, (runs-inside c.loop-i.invariant.runs _ c.loop-i.invariant.parts c.loop-i-test.true c.requires.1).1.0)

pub and_rule-bounds-list-count : goal.and_rule-bounds-list-count
and_rule-bounds-list-count t c = (runs-inside c.loop-i.invariant.runs _ c.loop-i.invariant.parts c.loop-i-test.true c.requires.1).1.0

pub and_rule-overflow_add-count : goal.and_rule-overflow_add-count
and_rule-overflow_add-count t c = omega (arith, (runs-inside c.loop-i.invariant.runs _ c.loop-i.invariant.parts c.loop-i-test.true c.requires.1).1.0)

pub and_rule-overflow_add-place-then-part-lt-NODE : goal.and_rule-overflow_add-place-then-part-lt-NODE
and_rule-overflow_add-place-then-part-lt-NODE t c = omega (arith, (runs-inside c.loop-i.invariant.runs _ c.loop-i.invariant.parts c.loop-i-test.true c.requires.1).0)

pub and_rule-skip-place-requires : goal.and_rule-skip-place-requires
and_rule-skip-place-requires t c =
    (_, (runs-ready c.loop-i.invariant.runs _ c.loop-i.invariant.parts c.loop-i-test.true c.requires.1 c.if-part-lt-NODE.false).1)

pub and_rule-or_rule-found-requires : goal.and_rule-or_rule-found-requires
and_rule-or_rule-found-requires t c =
    let below = runs-ready c.loop-i.invariant.runs _ c.loop-i.invariant.parts c.loop-i-test.true c.requires.1 c.if-part-lt-NODE.false in
    (omega (arith, below.0), (c.requires.0, below.1))

pub and_rule-add-walked-requires : goal.and_rule-add-walked-requires
and_rule-add-walked-requires t c =
    runs-room c.loop-i.invariant.runs _ c.loop-i.invariant.parts c.loop-i-test.true c.if-part-lt-NODE.false c.if-walked.false _ c.or_rule-found.ensures c.requires.1

pub and_rule-loop-i-preserved : goal.and_rule-loop-i-preserved
and_rule-loop-i-preserved t c =
    let loop = c.loop-i in
    let inv = loop.invariant in
    let test = c.loop-i-test.true in
    elim c.if-part-lt-NODE.branch [
      | and_rule-then-part-lt-NODE w ↦ rw (w.list-is, w.count-is, w.walked-is, w.rounds-is, w.place-is) (record {
        parts = refl;
        room = simp length-set inv.room;
        runs =
            runs-leaf inv.runs _ inv.parts test w.if-part-lt-NODE.true _ refl
            (stored loop.list loop.count _ (omega (arith, (runs-inside inv.runs _ inv.parts test c.requires.1).1.0, inv.room)));
      })
      | and_rule-else-part-lt-NODE+then-walked w ↦ rw (w.list-is, w.count-is, w.walked-is, w.rounds-is, w.place-is) (record {
        parts = refl;
        room = inv.room;
        runs = runs_skip inv.runs _ inv.parts test w.if-part-lt-NODE.false w.if-walked.true _ w.skip-place.ensures;
      })
      | and_rule-else-part-lt-NODE+else-walked w ↦ rw (w.list-is, w.count-is, w.walked-is, w.rounds-is, w.place-is) (record {
        parts = refl;
        room = inv.room;
        runs = runs-node inv.runs _ inv.parts test w.if-part-lt-NODE.false w.if-walked.false _ w.or_rule-found.ensures _ (w.add-walked.ensures _);
      })
    ]

pub and_rule-finish-finished-requires : goal.and_rule-finish-finished-requires
and_rule-finish-finished-requires t c = (c.requires.0, runs-gathered c.loop-i.invariant.runs c.requires.1)

pub and_rule-returns : goal.and_rule-returns
and_rule-returns t c = runs-end c.loop-i.invariant.runs _ c.loop-i.invariant.parts c.loop-i-test.false _ _ c.finish-finished.ensures

pub or_rule-loop-i-init : goal.or_rule-loop-i-init
or_rule-loop-i-init t c = record {
  parts = refl;
  room = refl;
  runs = runs-start refl (record { is = refl; size = refl }) c.begin-walked.ensures.1.0 (c.begin-walked.ensures.1.1 _);
}

pub or_rule-offset_bounds-token-place : goal.or_rule-offset_bounds-token-place
or_rule-offset_bounds-token-place t c = omega (arith, (runs-inside c.loop-i.invariant.runs _ c.loop-i.invariant.parts c.loop-i-test.true c.requires.1).0)

pub or_rule-bounds-token-place : goal.or_rule-bounds-token-place
or_rule-bounds-token-place t c = (runs-inside c.loop-i.invariant.runs _ c.loop-i.invariant.parts c.loop-i-test.true c.requires.1).0

pub or_rule-offset_bounds-list-count : goal.or_rule-offset_bounds-list-count
or_rule-offset_bounds-list-count t c = omega (arith, (runs-inside c.loop-i.invariant.runs _ c.loop-i.invariant.parts c.loop-i-test.true c.requires.1).1.0)

pub or_rule-bounds-list-count : goal.or_rule-bounds-list-count
or_rule-bounds-list-count t c = (runs-inside c.loop-i.invariant.runs _ c.loop-i.invariant.parts c.loop-i-test.true c.requires.1).1.0

pub or_rule-overflow_add-count : goal.or_rule-overflow_add-count
or_rule-overflow_add-count t c = omega (arith, (runs-inside c.loop-i.invariant.runs _ c.loop-i.invariant.parts c.loop-i-test.true c.requires.1).1.0)

pub or_rule-overflow_add-place-then-part-lt-NODE : goal.or_rule-overflow_add-place-then-part-lt-NODE
or_rule-overflow_add-place-then-part-lt-NODE t c = omega (arith, (runs-inside c.loop-i.invariant.runs _ c.loop-i.invariant.parts c.loop-i-test.true c.requires.1).0)

pub or_rule-skip-place-requires : goal.or_rule-skip-place-requires
or_rule-skip-place-requires t c =
    (_, (runs-ready c.loop-i.invariant.runs _ c.loop-i.invariant.parts c.loop-i-test.true c.requires.1 c.if-part-lt-NODE.false).1)

pub or_rule-and_rule-found-requires : goal.or_rule-and_rule-found-requires
or_rule-and_rule-found-requires t c =
    let below = runs-ready c.loop-i.invariant.runs _ c.loop-i.invariant.parts c.loop-i-test.true c.requires.1 c.if-part-lt-NODE.false in
    (omega (arith, below.0), (c.requires.0, below.1))

pub or_rule-add-walked-requires : goal.or_rule-add-walked-requires
or_rule-add-walked-requires t c =
    runs-room c.loop-i.invariant.runs _ c.loop-i.invariant.parts c.loop-i-test.true c.if-part-lt-NODE.false c.if-walked.false _ c.and_rule-found.ensures c.requires.1

pub or_rule-loop-i-preserved : goal.or_rule-loop-i-preserved
or_rule-loop-i-preserved t c =
    let loop = c.loop-i in
    let inv = loop.invariant in
    let test = c.loop-i-test.true in
    elim c.if-part-lt-NODE.branch [
      | or_rule-then-part-lt-NODE w ↦ rw (w.list-is, w.count-is, w.walked-is, w.rounds-is, w.place-is) (record {
        parts = refl;
        room = simp length-set inv.room;
        runs =
            runs-leaf inv.runs _ inv.parts test w.if-part-lt-NODE.true _ refl
            (stored-as loop.list loop.count _ _ w.opposite.ensures (omega (arith, (runs-inside inv.runs _ inv.parts test c.requires.1).1.0, inv.room)));
      })
      | or_rule-else-part-lt-NODE+then-walked w ↦ rw (w.list-is, w.count-is, w.walked-is, w.rounds-is, w.place-is) (record {
        parts = refl;
        room = inv.room;
        runs = runs_skip inv.runs _ inv.parts test w.if-part-lt-NODE.false w.if-walked.true _ w.skip-place.ensures;
      })
      | or_rule-else-part-lt-NODE+else-walked w ↦ rw (w.list-is, w.count-is, w.walked-is, w.rounds-is, w.place-is) (record {
        parts = refl;
        room = inv.room;
        runs = runs-node inv.runs _ inv.parts test w.if-part-lt-NODE.false w.if-walked.false _ w.and_rule-found.ensures _ (w.add-walked.ensures _);
      })
    ]

pub or_rule-finish-finished-requires : goal.or_rule-finish-finished-requires
or_rule-finish-finished-requires t c = (c.requires.0, runs-gathered c.loop-i.invariant.runs c.requires.1)

pub or_rule-returns : goal.or_rule-returns
or_rule-returns t c = runs-end c.loop-i.invariant.runs _ c.loop-i.invariant.parts c.loop-i-test.false _ _ c.finish-finished.ensures
