use Rattle.std.proofs.Common.{[], arith}
use Rattle.evaluate.specs.Walk.{node-there, atom-small, node-atom, some-children, runs-start, runs-first, runs-more, runs-end, node-join}
use Rattle.evaluate.proofs.+node.Goals as goal

pub offset_bounds-token-at : goal.offset_bounds-token-at
offset_bounds-token-at t c = omega (arith, node-there [] [] [] [] _ _ _ c.requires.2)

pub bounds-token-at : goal.bounds-token-at
bounds-token-at t c = node-there [] [] [] [] _ _ _ c.requires.2

pub atom-truth-requires : goal.atom-truth-requires
atom-truth-requires t c = (c.requires.0, c.requires.1, atom-small [] [] [] [] _ _ _ c.requires.2 c.if-first-lt-JOIN.true)

pub overflow_add-result : goal.overflow_add-result
overflow_add-result t c = omega (arith, node-there [] [] [] [] _ _ _ c.requires.2)

pub returns-then-first-lt-JOIN : goal.returns-then-first-lt-JOIN
returns-then-first-lt-JOIN t c = node-atom _ _ _ _ _ _ _ c.if-first-lt-JOIN.true c.atom-truth.ensures

pub loop-init : goal.loop-init
loop-init t c kids ch = runs-start _ _ _ _ _ _ _ _ _ ch.held

pub overflow_sub-kind : goal.overflow_sub-kind
overflow_sub-kind t c = (some-children _ _ _ c.if-first-lt-JOIN.false c.requires.2).1.small

pub node-child-requires : goal.node-child-requires
node-child-requires t c =
    let (kids, ch) = some-children _ _ _ c.if-first-lt-JOIN.false c.requires.2 in
    let runs = c.loop.invariant kids ch in
    let child = runs-first _ _ _ _ _ _ _ _ _ runs (omega (arith, ch.counted, c.loop-test.true)) in (
      omega (arith, c.decreases, runs.further, node-there [] [] [] [] _ _ _ c.requires.2),
      (c.requires.0, c.requires.1, record { tree = child.node; held = child.held }),
    )

pub loop-preserved : goal.loop-preserved
loop-preserved t c kids ch =
    runs-more _ _ _ _ _ _ _ _ _ (c.loop.invariant kids ch) (omega (arith, ch.counted, c.loop-test.true)) c.node-child.ensures c.both-fits.ensures
    c.joined-holds.ensures

pub returns : goal.returns
returns t c =
    node-join _ _ _ _ _ _ _ c.if-first-lt-JOIN.false
    (λ kids ch. runs-end _ _ _ _ _ _ _ _ _ (c.loop.invariant kids ch) (omega (arith, ch.counted, c.loop-test.false)))
