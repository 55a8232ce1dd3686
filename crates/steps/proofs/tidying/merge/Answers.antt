use Rattle.std.proofs.Common.{List, ℕ, ◌+◌, Some, refl, ap, ◌∙◌, arith}
use Rattle.tape.specs.Row.{row_of, Lists}
use Rattle.tape.specs.Listing.{rest-none}
use Rattle.tape.specs.Storing.{ahead-start, ahead-later, ahead-too, rest-ahead}
use Rattle.steps.proofs.Merging.{merge-start, merge-end, merge-false, merge-true, merge-open}
use Rattle.steps.proofs.tidying.merge.Goals as goal
use Rattle.steps.proofs.tidying.merge.Goals.{in-None, in-Some-true}

pub loop-i-init : goal.loop-i-init
loop-i-init c = record { small = omega arith; ahead = ahead-start _ 0; left = λ l h. merge-start _ l _ (record { is = refl; size = refl }) }

pub returns-in-Some-false : goal.returns-in-Some-false
returns-in-Some-false c =
    let loop = c.loop-i in (
      omega arith,
      λ l h.
          merge-false (rw (rest-ahead {i = loop.i} h (omega (arith, h.size)) loop.invariant.ahead) at (loop.invariant.left l h)) _ c.if_constant.ensures
          (c.in-Some-false.is ∙ ap Some c.in-Some-false.field-0-test),
    )

pub loop-i-preserved : goal.loop-i-preserved
loop-i-preserved c =
    let loop = c.loop-i in
    let ahead = ahead-later (loop.i + 1) loop.invariant.ahead (omega arith) in
    let next = λ (l : List ℕ) (h : Lists (row_of c.args.list.now c.args.n) l).
    rw (rest-ahead {i = loop.i} h (omega (arith, h.size)) loop.invariant.ahead) at (loop.invariant.left l h) in
    elim c.match-if_constant.branch [
      | in-None w ↦
          let into = w.merge_into-count.ensures in
          rw (w.list-is, w.count-is) (record {
            small = omega (arith, into.0);
            ahead = ahead-too (ahead-later (loop.i + 1) into.1.0 (omega arith)) ahead;
            left = λ l h. let m = next l h in merge-open m _ c.if_constant.ensures w.in-None.is _ (into.1.1 _ m.list c.requires.0 m.lists);
          })
      | in-Some-true w ↦ rw (w.list-is, w.count-is) (record {
        small = omega arith;
        ahead = ahead;
        left = λ l h. merge-true (next l h) _ c.if_constant.ensures (w.in-Some-true.is ∙ ap Some w.in-Some-true.field-0-test);
      })
    ]

pub returns : goal.returns
returns c =
    (omega arith, λ l h. merge-end (rw (rest-none l c.loop-i.i (omega (arith, h.size))) at (c.loop-i.invariant.left l h)))
