-- `narrowed` meets its contract: at each index that was left out some monomial fails.
use borrow.Author.Rules.{rules}
use Prim.Native.Nat.{◌+◌, ◌-◌}
use native.Mathlib.Omega.{arith}
use mir.Syntax.{w32, w64}
use mir.Val.{SFits, to_z}
use mir.ValLaws.{to_z-of_z}
use Rattle.interval.specs.Coefficients.{back}
use Rattle.two_atoms.proofs.Walks.{from-within}
use Rattle.two_atoms.proofs.RangeWalks.{RangeWalked, range-begun, walk-range, range-narrowed}
use Rattle.two_atoms.proofs.range.narrowed.Statement.{statement}
use Rattle.two_atoms.proofs.range.narrowed.Tie as tie

abbrev invariant-loop : tie.invariant-loop-i
invariant-loop coefficient monomial sign u mirrored asked m n o from₀ to₀ i₀ j₀ k₀ from to i j k =
    RangeWalked coefficient monomial sign i₀ m j₀ n k₀ o (to_z w32 u) mirrored from₀ to₀ from to i j k

abbrev decreases-loop : tie.decreases-loop-i
decreases-loop coefficient monomial sign u mirrored asked m n o from₀ to₀ i₀ j₀ k₀ from to i j k = m + n + o - (i + j + k)

loop-holds : tie.Need-loop-i-init invariant-loop decreases-loop
loop-holds c =
    let h = c.before.before.before.requires in
    range-begun h.0.p.ordered h.0.q1.ordered h.0.q2.ordered h.1.ordered h.1.low

returns : tie.Need-returns-then-to-from invariant-loop decreases-loop
returns c =
    let s = c.before.before.before.before.before.before in
    rw (back s.ranges.u) at (range-narrowed {x = s.args.pair} {range = s.args.range} c.before.before.loop-i.invariant)

next-step-requires : tie.Need-next_step-step-requires invariant-loop decreases-loop
next-step-requires c κs =
    let h = c.before.before.before.before.before.before.requires.0 in
    let w = c.before.before.loop-i.invariant in (
      (from-within h.p w.first, from-within h.q1 w.second),
      (from-within h.q2 w.third, omega arith),
    )

loop-again : tie.Need-loop-i-preserved invariant-loop decreases-loop
loop-again c =
    let r = c.before.before.before.before.before.before.next_step-step in
    let x : SFits w64 r.result.x = record { sfits = c.before.before.before.before.before.struct_told-1.given.0.1 } in
    let b : SFits w32 r.result.b = record { sfits = c.before.before.before.before.struct_told-in-loop-i-1.given.1.0.1 } in
    walk-range c.before.before.before.before.before.before.before.before.before.loop-i.invariant r.ensures
    c.before.before.before.before.before.before.before.before.before.before.asked-asked.ensures
    (rw (to_z-of_z w64 r.result.x x, back b) at c.before.before.before.raised-from.ensures)
    (rw (to_z-of_z w64 r.result.x x, back b) at c.lowered-to.ensures)

returns-2 : tie.Need-returns invariant-loop decreases-loop
returns-2 c =
    let s = c.before.before.before.before.before in
    rw (back s.ranges.u) at (range-narrowed {x = s.args.pair} {range = s.args.range} c.before.loop-i.invariant)

pub narrowed_spec : {M : Type 1} → statement M
narrowed_spec =
    tie.close
    (tie.spec invariant-loop decreases-loop (λ c κs. search rules) loop-holds (λ c. omega arith) (λ c. omega arith) (λ c. omega arith) (λ c. omega arith) returns
    next-step-requires (λ c κs. (omega arith, omega arith)) (λ c κs. (omega arith, omega arith)) (λ c. omega arith) loop-again returns-2)
