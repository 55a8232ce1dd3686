-- `first` meets its contract: monomials with the coefficient 0 are passed over, and the first other one is the first term.
use mathlib.Core.Path.{refl}
use Prim.Native.Nat.{◌+◌, ◌-◌}
use native.Mathlib.Omega.{arith}
use mir.Syntax.{w32, w64}
use mir.Val.{SFits, to_z}
use mir.ValLaws.{to_z-of_z}
use Rattle.interval.specs.Coefficients.{back}
use Rattle.two_atoms.proofs.Sums.{is-zero, not_zero, SumWalked, walk-sum, led-there, led-none}
use Rattle.two_atoms.proofs.sum.first.Statement.{statement}
use Rattle.two_atoms.proofs.sum.first.Tie as tie

abbrev invariant-loop : tie.invariant-loop-x
invariant-loop coefficient monomial sign i m j n u x₀ y₀ x y = SumWalked coefficient monomial i m j n (to_z w32 u) x y

abbrev decreases-loop : tie.decreases-loop-x
decreases-loop coefficient monomial sign i m j n u x₀ y₀ x y = m + n - (x + y)

loop-holds : tie.Need-loop-x-init invariant-loop decreases-loop
loop-holds c = record { first = omega arith; second = omega arith; rest = refl }

next-requires : tie.Need-next-row-requires invariant-loop decreases-loop
next-requires c κs =
    let h = c.before.before.before.before.requires in
    let w = c.before.loop-x.invariant in
    record {
      first = w.first.within;
      second = w.second.within;
      more = omega arith;
      first_coefficients = h.0.coefficients;
      first_monomials = h.0.monomials;
      first_signs = h.0.signs;
      second_coefficients = h.1.coefficients;
      second_monomials = h.1.monomials;
      second_signs = h.1.signs;
    }

returns : tie.Need-returns-then-c-ne0 invariant-loop decreases-loop
returns c =
    let s = c.before.before.before.before.before.before.before in
    let r = c.before.before.next-row in
    let fits : SFits w64 r.result.c = record { sfits = c.before.struct_told-1.given.0.1 } in
    rw (to_z-of_z w64 r.result.c fits)
    (rw (back s.ranges.u) at (led-there c.before.before.before.before.loop-x.invariant r.ensures
    (not_zero {z = r.result.c} fits c.if-c-ne0.true)))

loop-again : tie.Need-loop-x-preserved invariant-loop decreases-loop
loop-again c =
    let r = c.before.before.next-row in
    let fits : SFits w64 r.result.c = record { sfits = c.before.struct_told-1.given.0.1 } in
    walk-sum c.before.before.before.before.loop-x.invariant r.ensures (is-zero {z = r.result.c} fits c.if-c-ne0.false)

returns-2 : tie.Need-returns invariant-loop decreases-loop
returns-2 c =
    let s = c.before.before.before.before in
    rw (back s.ranges.u) at (led-none {ss = s.args.sign.now} c.before.loop-x.invariant (omega arith) (omega arith))

pub first_spec : {M : Type 1} → statement M
first_spec =
    tie.close
    (tie.spec invariant-loop decreases-loop loop-holds (λ c. omega arith) (λ c. omega arith) next-requires returns (λ c. omega arith) loop-again returns-2)
