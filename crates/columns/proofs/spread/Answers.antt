use Rattle.std.proofs.Common.{◌≡◌, ◌<◌, length, ◌∙◌, arith}
use Rattle.std.specs.Int.Count.{count_trailing_zeros}
use Rattle.std.proofs.Math.Pow.{pow_pos}
use Rattle.columns.specs.Bits.{has-lowest, lowest-below, power-at-most}
use Rattle.columns.specs.Columns.{one_shifted, spread_none, spread-step, spread_end}
use Rattle.columns.proofs.spread.Goals as goal

pub loop-rest-init : goal.loop-rest-init
loop-rest-init c = spread_none _ _ _ _ c.ranges.word.fits

pub put-requires : goal.put-requires
put-requires c =
    let l = c.loop-rest in
    let h = lowest-below 64 l.rest (omega arith) l.invariant.small in
    let e : length l.columns ≡ 130 = l.invariant.more.same_length ∙ c.requires.1.1 in
    (c.requires.0, (omega arith, e))

pub overflow_sub-rest : goal.overflow_sub-rest
overflow_sub-rest c =
    let l = c.loop-rest in
    let h : 0 < l.rest = omega arith in
    rw (one_shifted (lowest-below 64 l.rest h l.invariant.small)) (power-at-most (has-lowest 64 h l.invariant.small))

pub loop-rest-smaller : goal.loop-rest-smaller
loop-rest-smaller c =
    let l = c.loop-rest in
    let h : 0 < l.rest = omega arith in
    let m = power-at-most (has-lowest 64 h l.invariant.small) in
    let n = pow_pos (count_trailing_zeros 64 l.rest) in
    rw (one_shifted (lowest-below 64 l.rest h l.invariant.small)) (omega arith)

pub loop-rest-preserved : goal.loop-rest-preserved
loop-rest-preserved c =
    let l = c.loop-rest in
    let h : 0 < l.rest = omega arith in
    rw (one_shifted (lowest-below 64 l.rest h l.invariant.small))
    (spread-step (count_trailing_zeros 64 l.rest) l.invariant (has-lowest 64 h l.invariant.small) c.put.ensures)

pub returns : goal.returns
returns c = spread_end _ c.loop-rest.invariant c.loop-rest-test.false
