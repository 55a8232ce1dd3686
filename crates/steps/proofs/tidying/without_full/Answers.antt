use Rattle.std.proofs.Common.{List, ℕ, ◌+◌, refl, sym, ◌∙◌, arith}
use Rattle.table.specs.Table.{Table}
use Rattle.tape.specs.Row.{row_of, Lists}
use Rattle.tape.specs.Listing.{rest-none}
use Rattle.tape.specs.Storing.{stored, ahead-start, ahead-later, ahead-stored, rest-ahead}
use Rattle.steps.proofs.Merging.{keep-start, keep-end, keep-empty, keep-full, keep-open}
use Rattle.steps.proofs.tidying.without_full.Goals as goal
use Rattle.steps.proofs.tidying.without_full.Goals.{then-set-2, else-set-2}

pub loop-i-init : goal.loop-i-init
loop-i-init c = record { small = omega arith; ahead = ahead-start _ 0; left = λ t l h. keep-start t l _ (record { is = refl; size = refl }) }

pub returns-then-set : goal.returns-then-set
returns-then-set c t l h =
    let loop = c.loop-i in
    keep-empty (rw (rest-ahead {i = loop.i} h (omega (arith, h.size)) loop.invariant.ahead) at (loop.invariant.left t l h)) (sym c.set_of-set.ensures ∙ c.if-set.true)

pub loop-i-preserved : goal.loop-i-preserved
loop-i-preserved c =
    let loop = c.loop-i in
    let set_is = c.set_of-set.ensures in
    let ahead = ahead-later (loop.i + 1) loop.invariant.ahead (omega arith) in
    let next = λ (t : Table) (l : List ℕ) (h : Lists (row_of c.args.list.now c.args.n) l).
    rw (rest-ahead {i = loop.i} h (omega (arith, h.size)) loop.invariant.ahead) at (loop.invariant.left t l h) in
    elim c.if-set-2.branch [
      | then-set-2 w ↦ rw (w.list-is, w.count-is) (record {
        small = omega arith;
        ahead = ahead-stored loop.count _ ahead (omega arith);
        left = λ t l h. keep-open (next t l h) (λ e. c.if-set.false (set_is ∙ e)) (λ e. w.if-set-2.true (set_is ∙ e)) _ (stored loop.list loop.count _ (omega arith));
      })
      | else-set-2 w ↦ rw (w.list-is, w.count-is) (record {
        small = omega arith;
        ahead = ahead;
        left = λ t l h. keep-full (next t l h) (λ e. c.if-set.false (set_is ∙ e)) (sym set_is ∙ w.if-set-2.false);
      })
    ]

pub returns : goal.returns
returns c t l h = keep-end (rw (rest-none l c.loop-i.i (omega (arith, h.size))) at (c.loop-i.invariant.left t l h))
