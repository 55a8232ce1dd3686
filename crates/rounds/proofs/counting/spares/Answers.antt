use Rattle.std.proofs.Common.{◌<◌, arith}
use Rattle.std.proofs.lemmas.List.{get_or-take, length-take-le}
use Rattle.rounds.proofs.Spares.{spares-more, spares-none}
use Rattle.rounds.proofs.counting.spares.Goals as goal

pub loop-set-preserved : goal.loop-set-preserved
loop-set-preserved c =
    let sum = c.loop-set.invariant in
    let low : c.loop-set.set-index < c.args.n = omega (arith, c.loop-set-test.true, length-take-le c.args.n c.args.sets.now c.requires.0) in
    let more = spares-more c.args.sets.now c.loop-set.set-index c.args.n low in
    let its = rw (get_or-take c.args.n c.args.sets.now c.loop-set.set-index 0 low) at c.spare-sum.ensures.0 in
    record { so_far = omega (arith, sum.so_far, more, its); few = omega (arith, sum.few, c.spare-sum.ensures.1) }

pub returns : goal.returns
returns c =
    let sum = c.loop-set.invariant in
    let all = length-take-le c.args.n c.args.sets.now c.requires.0 in
    let none = spares-none c.args.sets.now c.loop-set.set-index c.args.n (omega (arith, c.loop-set-test.false, all)) in
    (omega (arith, sum.so_far, none), omega (arith, sum.few, c.loop-set.auto.set-index-end, all, c.requires.1))
