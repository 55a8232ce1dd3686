use Rattle.std.proofs.Common.{◌≡◌, ◌+◌, ◌-◌, ◌≤◌, length, take, drop, append-nil, length-drop, length-take, arith}
use Rattle.std.proofs.lemmas.List.{take_all}
use Rattle.tape.specs.Listing.{part_held}
use Rattle.tape.specs.Storing.{stored, counted}
use Rattle.level.proofs.Telling.{tell-turn}
use Rattle.level.proofs.writing.tell_atoms.Goals as goal

pub loop-token-init : goal.loop-token-init
loop-token-init c = record { placed = omega arith; told = λ k l m p q h. rw append-nil p }

pub loop-token-preserved : goal.loop-token-preserved
loop-token-preserved c =
    let loop = c.loop-token in
    let a = c.args in
    record {
      placed = omega arith;
      told = λ k l m p q h.
          let e = part_held a.from a.to q h in
          tell-turn a.conjunction l (take (a.to - a.from) (drop a.from m)) loop.token-index _ (rw e at c.told.ensures) (rw e at c.loop-token-test.true)
          (stored loop.out loop.place _ (omega (arith, loop.invariant.placed, c.loop-token-test.true, length-take (a.to - a.from) (drop a.from a.row.now))) _ (loop.invariant.told k l m p q h));
    }

pub returns : goal.returns
returns c k l m p q h =
    let loop = c.loop-token in
    let a = c.args in
    let e = part_held a.from a.to q h in
    let size = length-take (a.to - a.from) (drop a.from a.row.now) in
    let all = take_all loop.token-index (take (a.to - a.from) (drop a.from m)) (rw e at c.loop-token-test.false) in
    counted (rw all at (loop.invariant.told k l m p q h)) (omega (arith, size, length-drop a.from a.row.now))
