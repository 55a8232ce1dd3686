-- `left_of` meets its contract: no atom that passes has gone, whichever of the missing bits were asked.
use borrow.Author.Rules.{rules}
use mathlib.Core.Path.{subst}
use Prim.Native.Nat.{◌<◌}
use native.Mathlib.Omega.{arith}
use lib.Count.{count_trailing_zeros}
use lib.Pow.{pow_pos}
use Rattle.columns.specs.Bits.{has-lowest, lowest-below, power-at-most}
use Rattle.columns.specs.Columns.{one_shifted, Asked, asked-none, ask, asked-left, LeftOf}
use Rattle.columns.proofs.left_of.Statement.{statement}
use Rattle.columns.proofs.left_of.Tie as tie

abbrev invariant-loop : tie.invariant-loop-need
invariant-loop n p columns need₀ low₀ high₀ need low high = Asked columns (record { negative = n; positive = p }) need low high

abbrev decreases-loop : tie.decreases-loop-need
decreases-loop n p columns need₀ low₀ high₀ need low high = need

cast-k : tie.Need-overflow_cast-k invariant-loop decreases-loop
cast-k c = let l = c.loop-need in let h = lowest-below 64 l.need (omega arith) l.invariant.small in search rules

mul_low : tie.Need-offset_bounds-columns-k invariant-loop decreases-loop
mul_low c = let l = c.loop-need in let h = lowest-below 64 l.need (omega arith) l.invariant.small in search rules

shared-slice-read-low-2 : tie.Need-bounds-columns-k invariant-loop decreases-loop
shared-slice-read-low-2 c =
    let l = c.loop-need in
    let h = lowest-below 64 l.need (omega arith) l.invariant.small in
    let e = c.requires in
    omega arith

add-high : tie.Need-overflow_add-high invariant-loop decreases-loop
add-high c = let l = c.loop-need in let h = lowest-below 64 l.need (omega arith) l.invariant.small in search rules

mul-high : tie.Need-offset_bounds-columns-k-in-loop-need invariant-loop decreases-loop
mul-high c = let l = c.loop-need in let h = lowest-below 64 l.need (omega arith) l.invariant.small in search rules

shared-slice-read-high-2 : tie.Need-bounds-columns-k-in-loop-need invariant-loop decreases-loop
shared-slice-read-high-2 c =
    let l = c.loop-need in
    let h = lowest-below 64 l.need (omega arith) l.invariant.small in
    let e = c.requires in
    omega arith

shl-need : tie.Need-overflow_shl-need invariant-loop decreases-loop
shl-need c = let l = c.loop-need in lowest-below 64 l.need (omega arith) l.invariant.small

sub-need : tie.Need-overflow_sub-need invariant-loop decreases-loop
sub-need c =
    let l = c.loop-need in
    let h : 0 < l.need = omega arith in
    rw (one_shifted (lowest-below 64 l.need h l.invariant.small)) (power-at-most (has-lowest 64 h l.invariant.small))

returns : tie.Need-returns-then-low-high-eq0 invariant-loop decreases-loop
returns c =
    let d = c.args in
    let l = c.loop-need in
    let h : 0 < l.need = omega arith in
    subst (LeftOf d.columns.now d.n d.p) c.if-low-high-eq0.true (asked-left (ask l.invariant (has-lowest 64 h l.invariant.small)))

loop-less : tie.Need-loop-need-smaller invariant-loop decreases-loop
loop-less c =
    let l = c.loop-need in
    let h : 0 < l.need = omega arith in
    let m = power-at-most (has-lowest 64 h l.invariant.small) in
    let n = pow_pos (count_trailing_zeros 64 l.need) in
    rw (one_shifted (lowest-below 64 l.need h l.invariant.small)) (omega arith)

loop-again : tie.Need-loop-need-preserved invariant-loop decreases-loop
loop-again c =
    let l = c.loop-need in
    let h : 0 < l.need = omega arith in
    rw (one_shifted (lowest-below 64 l.need h l.invariant.small)) (ask l.invariant (has-lowest 64 h l.invariant.small))

pub left_of_spec : {M : Type 1} → statement M
left_of_spec =
    tie.close
    (tie.spec invariant-loop decreases-loop (λ c. omega arith) (λ c. search rules)
    (λ c. asked-none c.args.columns.now (record { negative = c.args.n; positive = c.args.p })
    c.ranges.n.fits)
    cast-k mul_low shared-slice-read-low-2 add-high mul-high shared-slice-read-high-2 shl-need sub-need returns loop-less loop-again
    (λ c. asked-left c.loop-need.invariant))
