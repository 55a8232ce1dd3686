-- `total` meets its contract: what the monomials that are left add to the set at hand stays what all of them give.
use borrow.Author.Rules.{rules}
use mathlib.Core.Path.{refl, sym, ap, ◌∙◌}
use Prim.Native.Nat.{◌+◌, ◌-◌}
use lib.Dec.{lit<}
use native.Mathlib.Omega.{arith}
use mir.Syntax.{w32}
use mir.Val.{to_z, of_z}
use Rattle.rules.specs.Signs.{SignSet, sum, product}
use Rattle.rules.specs.Polynomial.{by_terms}
use Rattle.interval.specs.Coefficients.{back}
use Rattle.two_atoms.proofs.Totals.{value-back}
use Rattle.two_atoms.proofs.Walks.{from-within, TotalWalked, walk-total, total-mixed, total-done}
use Rattle.two_atoms.proofs.total.total.Statement.{statement}
use Rattle.two_atoms.proofs.total.total.Tie as tie

abbrev invariant-loop : tie.invariant-loop-i
invariant-loop coefficient monomial sign u w m n o sofar₀ i₀ j₀ k₀ sofar i j k = TotalWalked coefficient monomial sign i₀ m j₀ n k₀ o (to_z w32 u)
    (to_z w32 w) sofar.0 i j k

abbrev decreases-loop : tie.decreases-loop-i
decreases-loop coefficient monomial sign u w m n o sofar₀ i₀ j₀ k₀ sofar i j k = m + n + o - (i + j + k)

loop-holds : tie.Need-loop-i-init invariant-loop decreases-loop
unfolding by_terms
loop-holds c = record { first = omega arith; second = omega arith; third = omega arith; low = lit< tt; rest = λ x y z signed. refl }

next-step-requires : tie.Need-next_step-step-requires invariant-loop decreases-loop
next-step-requires c κs =
    let h = c.before.before.before.before.requires in
    let w = c.before.loop-i.invariant in (
      (from-within h.0.0 w.first, from-within h.0.1 w.second),
      (from-within h.1 w.third, omega arith),
    )

-- the set at hand after one more monomial
walked : (c : tie.After-sum-sofar invariant-loop decreases-loop) → let s = c.before.before.before.before.before.before.before.before.before.before in
    let r = c.before.before.before.before.before.next_step-step.result in
    TotalWalked s.args.coefficient.now s.args.monomial.now s.args.sign.now s.args.p.from s.args.p.to s.args.q1.from
    s.args.q1.to
    s.args.q2.from s.args.q2.to (to_z w32 (of_z w32 s.args.u)) (to_z w32 (of_z w32 s.args.w)) c.sum-sofar.result.0 r.i r.j r.k
walked c =
    let r = c.before.before.before.before.before.next_step-step in
    let value =
    value-back {x = r.result.x} {b = r.result.b} (to_z w32
    (of_z w32 c.before.before.before.before.before.before.before.before.before.before.args.w))
    (record { sfits = c.before.before.before.before.struct_told-1.given.0.1 })
    (record { sfits = c.before.before.before.struct_told-in-loop-i-1.given.1.0.1 }) c.before.before.sign_less-value.ensures in
    walk-total c.before.before.before.before.before.before.before.loop-i.invariant r.ensures
    (c.sum-sofar.ensures ∙ ap (sum _) (c.before.product.ensures ∙ ap (λ (x : SignSet). product x r.result.s) value))

returns : tie.Need-returns-then-asks_zero invariant-loop decreases-loop
returns c =
    let s = c.before.before.before.before.before.before.before.before.before.before.before.before in
    rw (back s.ranges.u, back s.ranges.w) at (total-mixed {p = s.args.p} {q1 = s.args.q1} {q2 = s.args.q2} (walked c.before.before)
    (sym c.before.asks_zero.ensures ∙ c.if-asks_zero.true))

returns-2 : tie.Need-returns invariant-loop decreases-loop
returns-2 c =
    let s = c.before.before.before.before in
    rw (back s.ranges.u, back s.ranges.w) at (total-done {p = s.args.p} {q1 = s.args.q1} {q2 = s.args.q2} c.before.loop-i.invariant
    (omega arith) (omega arith) (omega arith))

pub total_spec : {M : Type 1} → statement M
total_spec =
    tie.close
    (tie.spec invariant-loop decreases-loop loop-holds (λ c. omega arith) (λ c. omega arith) (λ c. omega arith) (λ c. omega arith) next-step-requires
    (λ c κs. search rules)
    (λ c κs. search rules) (λ c κs. search rules) (λ c κs. search rules) returns (λ c. omega arith) (λ c. walked c.before.before) returns-2)
